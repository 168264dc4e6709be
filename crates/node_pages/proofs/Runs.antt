-- The runs of a group, one after the other.
use Rattle.std.proofs.Common.{◌≡◌, ℕ, zero, suc, ◌+◌, ◌-◌, ◌*◌, ◌≤◌, ◌<◌, Bool, true, false, cond, List, [], ◌∷◌, ◌++◌}
use Rattle.std.proofs.Common.{map, min, length, take, drop, Some, mul-suc, refl, sym, ap, ap₂, subst, ◌∙◌, arith, ◌==◌}
use Rattle.std.specs.Int.{div_ceil}
use Rattle.std.specs.List.{slice_get, enumerate_from, AllByRecursion}
use Rattle.std.specs.List.Sorted.{IsStrictlySortedBy}
use Rattle.std.proofs.lemmas.List.{drop-drop, length-drop, length-take, take-append-drop, map-append, length-map}
use Rattle.std.proofs.lemmas.List.{take_min}
use Rattle.std.proofs.lemmas.List.FromFn.{length-enumerate_from}
use Rattle.std.proofs.lemmas.Slice.{between_is}
use Rattle.store_model.specs.Lists.{numbers_from, run_count, run_at, runs}
use Rattle.store_model.specs.Labels.{Lead, IsLead}
use Rattle.store_model.specs.Paths.{key_cmp}
use Rattle.store_model.specs.Pages.{Cell, page_room, IsCell, IsPage, group_pages}
use Rattle.store_model.proofs.ListsLemmas.{length-numbers_from, all_front, all_back, rising_front, rising_back}
use Rattle.store_model.proofs.PagesLemmas.{some_room}
use Rattle.node_pages.specs.LastPages.{page_of_run, pages_from}

-- the runs from a run on are those of the list from there on
shifted : {A : Type 0} (n first count : ℕ) (xs : List A)
    → map (run_at n xs) (numbers_from (suc first) count) ≡ map (run_at n (drop n xs)) (numbers_from first count)
unfolding numbers_from
shifted n first zero xs = refl
shifted n first (suc count) xs =
    let sum : n + n * first ≡ n * suc first = omega arith in
    ap₂ (λ r rs. r ∷ rs) (ap (take n) (ap (λ k. drop k xs) (sym sum) ∙ sym (drop-drop (n * first) n xs)))
    (shifted n (suc first) count xs)

-- the number of runs, one run on
counted : (b : Bool) (count : ℕ) → 1 ≤ count
    → run_count (cond b 10 31) count ≡ suc (run_count (cond b 10 31) (count - cond b 10 31))
counted true count some = omega arith
counted false count some = omega arith

none : (b : Bool) → run_count (cond b 10 31) 0 ≡ 0
none true = omega arith
none false = omega arith

-- the first run of a list, and those of the rest
runs_more : (level : ℕ) (xs : List Cell) → 1 ≤ length xs
    → runs (page_room level) xs ≡ take (page_room level) xs ∷ runs (page_room level) (drop (page_room level) xs)
unfolding runs numbers_from
runs_more level xs some =
    let n = page_room level in
    let count : run_count n (length xs) ≡ suc (run_count n (length (drop n xs))) =
    counted (level == 0) (length xs) some ∙ ap (λ k. suc (run_count n k)) (sym (length-drop n xs)) in
    let start : n * 0 ≡ 0 = omega arith in
    ap (λ k. map (run_at n xs) (numbers_from 0 k)) count
    ∙ ap₂ (λ r rs. r ∷ rs) (ap (λ k. take n (drop k xs)) start) (shifted n 0 (run_count n (length (drop n xs))) xs)

runs_none : (level : ℕ) → runs {A = Cell} (page_room level) [] ≡ []
unfolding runs numbers_from
runs_none level = ap (λ k. map (run_at (page_room level) []) (numbers_from 0 k)) (none (level == 0))

-- ---- pages numbered from an index on

pub all_pages : (level : ℕ) (lead : Lead) (cells : List Cell)
    → pages_from level lead 0 cells ≡ group_pages level lead cells
unfolding pages_from group_pages
all_pages level lead cells = refl

pub next_page : (level : ℕ) (lead : Lead) (index : ℕ) (cells : List Cell) → 1 ≤ length cells
    → pages_from level lead index cells ≡ page_of_run level lead index (take (page_room level) cells)
    ∷ pages_from level lead (index + 1) (drop (page_room level) cells)
unfolding pages_from
next_page level lead index cells some =
    ap (λ rs. map (λ run. page_of_run level lead run.0 run.1) (enumerate_from index rs)) (runs_more level cells some)

pub no_page : (level : ℕ) (lead : Lead) (index : ℕ) (cells : List Cell) → cells ≡ []
    → pages_from level lead index cells ≡ []
unfolding pages_from
no_page level lead index cells empty =
    ap (λ rs. map (λ run. page_of_run level lead run.0 run.1) (enumerate_from index rs))
    (ap (runs (page_room level)) empty ∙ runs_none level)

-- ---- the page of one run

-- it is the number of cells over the room of a page, rounded up
pub div_ceil-room : (level n : ℕ) → div_ceil n (page_room level) ≡ run_count (page_room level) n
div_ceil-room level n = elim (level == 0) as (λ b. div_ceil n (cond b 10 31) ≡ run_count (cond b 10 31) n)
    [ true ↦ omega arith | false ↦ omega arith ]

div_counted : (b : Bool) (count : ℕ) → run_count (cond b 10 31) count ≤ count
div_counted true count = omega arith
div_counted false count = omega arith

run_begins : (b : Bool) (count i : ℕ) → i < run_count (cond b 10 31) count → cond b 10 31 * i < count
run_begins true count i within = omega arith
run_begins false count i within = omega arith

pub length-runs : (level : ℕ) (cells : List Cell)
    → length (runs (page_room level) cells) ≡ run_count (page_room level) (length cells)
unfolding runs
length-runs level cells =
    let count = run_count (page_room level) (length cells) in
    length-map (numbers_from 0 count) (run_at (page_room level) cells) ∙ length-numbers_from 0 count

pub room_most : (level : ℕ) → page_room level ≤ 31
room_most level = elim (level == 0) as (λ b. cond b 10 31 ≤ 31) [ true ↦ omega arith | false ↦ omega arith ]

-- there are no more runs than cells
pub runs_few : (level : ℕ) (cells : List Cell) → length (runs (page_room level) cells) ≤ length cells
runs_few level cells = omega (arith, length-runs level cells, div_counted (level == 0) (length cells))

-- a run begins within the cells
pub run_within : (level i : ℕ) (cells : List Cell) → i < length (runs (page_room level) cells)
    → page_room level * i < length cells
run_within level i cells within = run_begins (level == 0) (length cells) i
    (omega (arith, within, length-runs level cells))

-- how many pages cells make
pub length-pages_from : (level : ℕ) (lead : Lead) (first : ℕ) (cells : List Cell)
    → length (pages_from level lead first cells) ≡ length (runs (page_room level) cells)
unfolding pages_from
length-pages_from level lead first cells =
    length-map (enumerate_from first (runs (page_room level) cells)) (λ run. page_of_run level lead run.0 run.1)
    ∙ length-enumerate_from first (runs (page_room level) cells)

-- the page of a run
pub page_at : (level : ℕ) (lead : Lead) (first index : ℕ) (cells : List Cell) → page_room level * index < length cells
    → slice_get (pages_from level lead first cells) index
    ≡ Some (page_of_run level lead (first + index) (take (page_room level) (drop (page_room level * index) cells)))
page_at level lead first zero cells within =
    let n = page_room level in
    let start : 0 ≡ n * 0 = omega arith in
    let number : first ≡ first + 0 = omega arith in
    ap (λ ps. slice_get ps 0) (next_page level lead first cells (omega arith))
    ∙ ap₂ (λ i k. Some (page_of_run level lead i (take n (drop k cells)))) number start
page_at level lead first (suc index) cells within =
    let n = page_room level in
    let behind : n + n * index ≡ n * suc index = omega arith in
    let number : first + 1 + index ≡ first + suc index = omega arith in
    ap (λ ps. slice_get ps (suc index)) (next_page level lead first cells (omega arith))
    ∙ page_at level lead (first + 1) index (drop n cells) (omega (arith, within, mul-suc n index, length-drop n cells))
    ∙ ap₂ (λ i xs. Some (page_of_run level lead i (take n xs))) number
    (drop-drop (n * index) n cells ∙ ap (λ k. drop k cells) behind)

-- it is one
pub run_is_page : (level : ℕ) (lead : Lead) (index done : ℕ) (cells : List Cell) → AllByRecursion (IsCell level) cells
    → IsStrictlySortedBy key_cmp (map (λ c. c.key) cells) → done < length cells → level < 256
    → IsLead lead → index < 4294967296
    → IsPage (page_of_run level lead index (take (page_room level) (drop done cells)))
run_is_page level lead index done cells each rising some low valid number =
    let room = page_room level in
    let rest = drop done cells in
    let keys : List Cell → List (List ℕ) = map (λ c. c.key) in
    let parted : (n : ℕ) (xs : List Cell) → keys xs ≡ keys (take n xs) ++ keys (drop n xs) =
    λ n xs. ap keys (sym (take-append-drop n xs)) ∙ map-append (λ (c : Cell). c.key) (take n xs) (drop n xs) in
    let rest_each = all_back (IsCell level) (take done cells) rest
    (subst (AllByRecursion (IsCell level)) (sym (take-append-drop done cells)) each) in
    let rest_rising = rising_back key_cmp (keys (take done cells)) (keys rest)
    (subst (IsStrictlySortedBy key_cmp) (parted done cells) rising) in
    let long = length-take room rest in
    record {
      label = record { level = low; lead = valid; index = number };
      some_cell = omega (arith, long, some_room level, length-drop done cells);
      room = omega (arith, long);
      cells = all_front (IsCell level) (take room rest) (drop room rest)
          (subst (AllByRecursion (IsCell level)) (sym (take-append-drop room rest)) rest_each);
      rising = rising_front key_cmp (keys (take room rest)) (keys (drop room rest))
          (subst (IsStrictlySortedBy key_cmp) (parted room rest) rest_rising);
    }

-- the next run, which is as long as there is room
pub run_next : (level done n room left : ℕ) (cells : List Cell) → n ≡ min room left → left ≡ length cells - done
    → room ≡ page_room level → drop done (take (done + n) cells) ≡ take (page_room level) (drop done cells)
run_next level done n room left cells n_is left_is room_is =
    let rest = drop done cells in
    let long : done + n - done ≡ n = omega arith in
    let fits : left ≡ length rest = left_is ∙ sym (length-drop done cells) in
    sym (between_is cells done (done + n)) ∙ ap (λ k. take k rest) (long ∙ n_is ∙ ap₂ min room_is fits)
    ∙ take_min (page_room level) rest
