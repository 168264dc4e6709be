-- Where a group ends: which page is its last one, and how many cells stand up to a full page.
use Rattle.std.proofs.Common.{◌≡◌, ◌↔◌, ℕ, zero, suc, ◌+◌, ◌*◌, ◌/◌, ◌<◌, ◌≤◌, List, [], ◌∷◌, length, take, drop, Bool}
use Rattle.std.proofs.Common.{IsTrue, true, false, cond, ◌==◌, Some, None, refl, sym, ap, subst, ◌∙◌, arith}
use Rattle.std.specs.List.{slice_get, enumerate_from}
use Rattle.std.proofs.lemmas.List.{length-map, length-take, length-drop, drop-drop}
use Rattle.std.proofs.lemmas.List.FromFn.{length-enumerate_from}
use Rattle.std.proofs.lemmas.Option.{slice_get_past}
use Rattle.store_model.specs.Lists.{runs, run_count}
use Rattle.store_model.specs.Labels.{Lead}
use Rattle.store_model.specs.Pages.{Cell, Page, page_room, group_pages}
use Rattle.store_model.proofs.ListsLemmas.{length-runs}
use Rattle.node_pages.specs.LastPages.{pages_from, page_of_run}
use Rattle.node_pages.proofs.Runs.{all_pages, next_page, no_page}
use Rattle.skip_groups.specs.Groups.{group_cost}

-- what is found at a number of a group's pages has the run of that number
run_from : (level : ℕ) (lead : Lead) (first index : ℕ) (cells : List Cell) (page : Page)
    → slice_get (pages_from level lead first cells) index ≡ Some page
    → page.cells ≡ take (page_room level) (drop (page_room level * index) cells)
run_from level lead first index [] page is = let none =
    ap (λ ps. slice_get ps index) (no_page level lead first [] refl) in absurd (cc)
run_from level lead first zero (c ∷ cells) page is =
    let n = page_room level in
    let start : 0 ≡ n * 0 = omega arith in
    same_cells (page_of_run level lead first (take n (c ∷ cells))) page
    (sym (ap (λ ps. slice_get ps 0) (next_page level lead first (c ∷ cells) (omega arith))) ∙ is)
    ∙ ap (λ k. take n (drop k (c ∷ cells))) start
  where
    same_cells : (a b : Page) → Some a ≡ Some b → b.cells ≡ a.cells
    same_cells a b e = let same : b ≡ a = cc in ap (λ (q : Page). q.cells) same
run_from level lead first (suc index) (c ∷ cells) page is =
    let n = page_room level in
    let sum : n + n * index ≡ n * suc index = omega arith in
    run_from level lead (first + 1) index (drop n (c ∷ cells)) page
    (sym (ap (λ ps. slice_get ps (suc index)) (next_page level lead first (c ∷ cells) (omega arith))) ∙ is)
    ∙ ap (take n) (drop-drop (n * index) n (c ∷ cells) ∙ ap (λ k. drop k (c ∷ cells)) sum)

run_of_page : (level : ℕ) (lead : Lead) (index : ℕ) (cells : List Cell) (page : Page)
    → slice_get (group_pages level lead cells) index ≡ Some page
    → length page.cells ≡ length (take (page_room level) (drop (page_room level * index) cells))
run_of_page level lead index cells page is =
    ap length (run_from level lead 0 index cells page (ap (λ ps. slice_get ps index) (all_pages level lead cells) ∙ is))

-- no page has more cells than there is room
pub within_room : (level : ℕ) (lead : Lead) (index : ℕ) (cells : List Cell) (page : Page)
    → slice_get (group_pages level lead cells) index ≡ Some page → length page.cells ≤ page_room level
within_room level lead index cells page is =
    omega (
      arith,
      run_of_page level lead index cells page is,
      length-take (page_room level)
          (drop (page_room level * index) cells),
    )

-- behind a full page there are so many cells
pub full_page : (level : ℕ) (lead : Lead) (index : ℕ) (cells : List Cell) (page : Page)
    → slice_get (group_pages level lead cells) index ≡ Some page → page_room level ≤ length page.cells
    → page_room level * index ≤ length cells → page_room level * (index + 1) ≤ length cells
full_page level lead index cells page is full before =
    let n = page_room level in
    omega (
      arith,
      run_of_page level lead index cells page is,
      length-take n
          (drop (n * index) cells),
      length-drop (n * index) cells,
    )

-- cells have no more runs than there are of them
pub few_runs : (n : ℕ) (cells : List Cell) → length (runs (page_room n) cells) ≤ length cells
few_runs n cells = subst (λ k. k ≤ length cells) (sym (length-runs (page_room n) cells))
    (elim (n == 0) as (λ b. run_count (cond b 10 31) (length cells) ≤ length cells)
    [ true ↦ omega arith | false ↦ omega arith ])

-- a group has as many pages as runs
pub length_of_group : (level : ℕ) (lead : Lead) (cells : List Cell)
    → length (group_pages level lead cells) ≡ length (runs (page_room level) cells)
unfolding group_pages
length_of_group level lead cells = length-map (enumerate_from 0 (runs (page_room level) cells))
    (λ run. page_of_run level lead run.0 run.1) ∙ length-enumerate_from 0 (runs (page_room level) cells)

-- and no more than cells
pub few_group_pages : (level : ℕ) (lead : Lead) (cells : List Cell)
    → length (group_pages level lead cells) ≤ length cells
few_group_pages level lead cells = omega (arith, length_of_group level lead cells, few_runs level cells)

-- so few cells have so few runs
runs_within : (level count index : ℕ) → count ≤ page_room level * index → run_count (page_room level) count ≤ index
runs_within level count index = elim (level == 0) as
    (λ b. count ≤ cond b 10 31 * index → run_count (cond b 10 31) count ≤ index)
    [ true ↦ λ few. omega arith | false ↦ λ few. omega arith ]

-- behind a page with room there is none
pub last_page : (level : ℕ) (lead : Lead) (index : ℕ) (cells : List Cell) (page : Page)
    → slice_get (group_pages level lead cells) index ≡ Some page → length page.cells < page_room level
    → slice_get (group_pages level lead cells) (index + 1) ≡ None
last_page level lead index cells page is short =
    let n = page_room level in
    let few : length cells ≤ n * (index + 1) =
    omega (
      arith,
      run_of_page level lead index cells page is,
      length-take n
          (drop (n * index) cells),
      length-drop (n * index) cells,
    ) in
    slice_get_past (group_pages level lead cells) (index + 1)
    (omega (
      arith,
      length_of_group level lead cells,
      length-runs n cells,
      runs_within level
          (length cells) (index + 1) few,
    ))

-- a page that is not the last has no room
pub no_room : (ends : Bool) (count room : ℕ) → (IsTrue ends ↔ (count < room)) → ends ≡ false → room ≤ count
no_room ends count room tells goes_on =
    let whole : count < room → ⊥ = λ short. let wrong : true ≡ false = sym (tells.1 short) ∙ goes_on in absurd (cc) in
    omega (arith, whole)

-- ---- what reading a group costs

-- no page has no room
pub some_cells : (level index count : ℕ) → page_room level * index ≤ count → index ≤ count
some_cells level index count = elim (level == 0) as (λ b. cond b 10 31 * index ≤ count → index ≤ count)
    [ true ↦ λ full. omega arith | false ↦ λ full. omega arith ]

-- so many full pages and one more
pub cost_of_full : (level index : ℕ) (cells : List Cell) → page_room level * index ≤ length cells
    → index + 1 ≤ group_cost level cells
cost_of_full level index cells = elim (level == 0) as
    (λ b. cond b 10 31 * index ≤ length cells → index + 1 ≤ length cells / cond b 10 31 + 1)
    [ true ↦ λ full. omega arith | false ↦ λ full. omega arith ]
