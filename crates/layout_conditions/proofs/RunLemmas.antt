-- The runs of a group of cells: what each begins with, how full it is, and that keys rise from one to the next.
use Rattle.std.proofs.Common.{◌≡◌, ℕ, zero, suc, ◌+◌, ◌-◌, ◌*◌, ◌<◌, ◌≤◌, List, [], ◌∷◌, ◌++◌, map, length, take, drop}
use Rattle.std.proofs.Common.{Bool, true, false, cond, refl, sym, ap, subst, ◌∙◌, arith, mul-zero, mul-suc}
use Rattle.std.proofs.Common.{mul-le-mul_left, take-add}
use Rattle.std.specs.List.{AllByRecursion, Contains, enumerate_from}
use Rattle.std.specs.List.Sorted.{IsStrictlySortedBy}
use Rattle.std.proofs.lemmas.Bool.{leb-true, ltb-false}
use Rattle.std.proofs.lemmas.List.{length-take, length-drop, take-append-drop}
use Rattle.std.proofs.lemmas.List.Elements.{All-from_recursion, recursion_from_All, All-take, All-drop}
use Rattle.std.proofs.lemmas.List.Elements.{Contains-append_left, Contains-append_right}
use Rattle.store_model.specs.Lists.{numbers_from, numbers_below, run_count, run_at, runs}
use Rattle.store_model.specs.Labels.{Lead}
use Rattle.store_model.specs.Labels.Lead.{Start, Leader}
use Rattle.store_model.specs.Draws.{Draw}
use Rattle.store_model.specs.Pages.{Cell, Page, page_room, leads_group, lead_of, group_pages}
use Rattle.store_model.proofs.ListsLemmas.{all_with}
use Rattle.store_model.proofs.ListsLemmasCuts.{IsUncut}
use Rattle.store_model.proofs.PagesLemmas.{some_room}
use Rattle.store_model.proofs.PagesLemmasOrder.{cell_cmp, page_of}
use Rattle.layout_conditions.specs.Pages.{KeysRise, EndsOn, AreRunOf}
use Rattle.layout_conditions.proofs.HeldLemmas.{rising_across}

-- ---- runs of any list

-- the runs of a list with their numbers
enumerate_numbers : {X : Type 0} (f : ℕ → X) (first count : ℕ)
    → enumerate_from first (map f (numbers_from first count)) ≡ map (λ i. (i, f i)) (numbers_from first count)
unfolding numbers_from
enumerate_numbers f first zero = refl
enumerate_numbers f first (suc count) =
    ap (λ n. (first, f first) ∷ enumerate_from n (map f (numbers_from (suc first) count))) (omega arith)
    ∙ ap (λ r. (first, f first) ∷ r) (enumerate_numbers f (suc first) count)

-- what holds of each element holds of each of a run
all_run : {X : Type 0} (P : X → Type 0) (n : ℕ) (xs : List X) (i : ℕ) → AllByRecursion P xs
    → AllByRecursion P (run_at n xs i)
all_run P n xs i all = recursion_from_All P (run_at n xs i)
    (All-take P n (drop (n * i) xs) (All-drop P (n * i) xs (All-from_recursion P xs all)))

-- what stands behind a place stands in the list
held_drop : {X : Type 0} (n : ℕ) (xs : List X) (x : X) → Contains (drop n xs) x → Contains xs x
held_drop n xs x held = subst (λ ys. Contains ys x) (take-append-drop n xs)
    (Contains-append_right (take n xs) (drop n xs) x held)

held_take : {X : Type 0} (n : ℕ) (xs : List X) (x : X) → Contains (take n xs) x → Contains xs x
held_take n xs x held = subst (λ ys. Contains ys x) (take-append-drop n xs)
    (Contains-append_left (take n xs) (drop n xs) x held)

-- what a run holds the list holds
pub held_run : {X : Type 0} (n : ℕ) (xs : List X) (i : ℕ) (x : X) → Contains (run_at n xs i) x → Contains xs x
held_run n xs i x held = held_drop (n * i) xs x (held_take n (drop (n * i) xs) x held)

-- a run with one behind it is full
pub full_run : {X : Type 0} (n : ℕ) (xs : List X) (i : ℕ) → 1 ≤ n → suc i < run_count n (length xs)
    → length (run_at n xs i) ≡ n
full_run n xs i some l =
    let taken = length-take n (drop (n * i) xs) in
    let left = length-drop (n * i) xs in
    let within : n * suc (suc i) ≤ n * run_count n (length xs) = mul-le-mul_left n l in
    let more = mul-suc n (suc i) in
    let own = mul-suc n i in
    omega arith

-- and its elements come before those of that one
pub rising_runs : (n : ℕ) (xs : List Cell) (i : ℕ) → IsStrictlySortedBy cell_cmp xs
    → KeysRise (run_at n xs i) (run_at n xs (suc i))
rising_runs n xs i up = λ a b held_a held_b.
    let front : take (n * i + n) xs ≡ take (n * i) xs ++ run_at n xs i = take-add (n * i) n xs in
    let sum : n * i + n ≡ n * suc i = (let e = mul-suc n i in omega arith) in
    rising_across cell_cmp (take (n * suc i) xs) (drop (n * suc i) xs) a b
    (subst (IsStrictlySortedBy cell_cmp) (sym (take-append-drop (n * suc i) xs)) up)
    (subst (λ ys. Contains ys a) (sym front ∙ ap (λ k. take k xs) sum)
    (Contains-append_right (take (n * i) xs) (run_at n xs i) a held_a))
    (held_take n (drop (n * suc i) xs) b held_b)

-- the first run of a list begins with its first element
first_run : {X : Type 0} (n : ℕ) (x : X) (xs : List X) → 1 ≤ n → run_at n (x ∷ xs) 0 ≡ x ∷ take (n - 1) xs
first_run n x xs some = ap (λ k. take n (drop k (x ∷ xs))) (mul-zero n)
    ∙ ap (λ k. take k (x ∷ xs)) (let e : n ≡ suc (n - 1) = omega arith in e)

-- the later ones are of what stands behind it
later_run : {X : Type 0} (n : ℕ) (x : X) (xs : List X) (i : ℕ) → 1 ≤ n
    → run_at n (x ∷ xs) (suc i) ≡ take n (drop (n * suc i - 1) xs)
later_run n x xs i some =
    let own = mul-suc n i in
    ap (λ k. take n (drop k (x ∷ xs))) (let e : n * suc i ≡ suc (n * suc i - 1) = omega arith in e)

-- ---- runs of groups

-- a run of a group, as a page
abbrev pub page_at_run : Draw → ℕ → List Cell → ℕ → Page
page_at_run d level group i = page_of level (lead_of d level group) (i, run_at (page_room level) group i)

-- the pages of a group are its runs
pub group_pages_are_runs : (d : Draw) (level : ℕ) (group : List Cell)
    → group_pages level (lead_of d level group) group
    ≡ map (page_at_run d level group) (numbers_below (run_count (page_room level) (length group)))
unfolding group_pages runs
group_pages_are_runs d level group =
    ap (map (page_of level (lead_of d level group)))
    (enumerate_numbers (run_at (page_room level) group) 0 (run_count (page_room level) (length group)))
    ∙ map_numbered (numbers_below (run_count (page_room level) (length group)))
  where
    map_numbered : (is : List ℕ) → map (page_of level (lead_of d level group))
        (map (λ i. (i, run_at (page_room level) group i)) is) ≡ map (page_at_run d level group) is
    map_numbered [] = refl
    map_numbered (i ∷ is) = ap (λ pages. page_at_run d level group i ∷ pages) (map_numbered is)

-- a cell that is not cut before ends on the level
ends_on : (d : Draw) (level : ℕ) (cell : Cell) → leads_group d level cell ≡ false
    → level ≤ d.level cell.key → EndsOn d level cell
ends_on d level cell uncut low = let most = ltb-false level (d.level cell.key) uncut in omega arith

-- the first run of a group is a first run, and the others are later ones
pub run_of_group : (d : Draw) (level : ℕ) (group : List Cell) (i : ℕ) → IsUncut (leads_group d level) group
    → AllByRecursion (λ c. level ≤ d.level c.key) group
    → AreRunOf d level (lead_of d level group) i (run_at (page_room level) group i)
unfolding lead_of
run_of_group d level [] i uncut low = absurd uncut
run_of_group d level (x ∷ xs) i uncut low = by_test (leads_group d level x) refl
  where
    ends : AllByRecursion (EndsOn d level) xs
    ends = all_with (λ c. leads_group d level c ≡ false) (λ c. level ≤ d.level c.key) (EndsOn d level)
        (ends_on d level) xs uncut low.1

    led : level < d.level x.key → (j : ℕ) → AreRunOf d level (Leader x.key) j (run_at (page_room level) (x ∷ xs) j)
    led above zero = subst (AreRunOf d level (Leader x.key) zero)
        (sym (first_run (page_room level) x xs (some_room level))) (
          refl,
          above,
          recursion_from_All (EndsOn d level) (take (page_room level - 1) xs)
              (All-take (EndsOn d level) (page_room level - 1) xs (All-from_recursion (EndsOn d level) xs ends)),
        )
    led above (suc j) = subst (AllByRecursion (EndsOn d level))
        (sym (later_run (page_room level) x xs j (some_room level)))
        (recursion_from_All (EndsOn d level) (take (page_room level) (drop (page_room level * suc j - 1) xs))
        (All-take (EndsOn d level) (page_room level) (drop (page_room level * suc j - 1) xs)
        (All-drop (EndsOn d level) (page_room level * suc j - 1) xs (All-from_recursion (EndsOn d level) xs ends))))

    by_test : (b : Bool) → leads_group d level x ≡ b
        → AreRunOf d level (lead_of d level (x ∷ xs)) i (run_at (page_room level) (x ∷ xs) i)
    by_test true e = subst (λ (l : Lead). AreRunOf d level l i (run_at (page_room level) (x ∷ xs) i))
        (sym (ap (λ b. cond b (Leader x.key) Start) e)) (led (leb-true (suc level) (d.level x.key) e) i)
    by_test false e = subst (λ (l : Lead). AreRunOf d level l i (run_at (page_room level) (x ∷ xs) i))
        (sym (ap (λ b. cond b (Leader x.key) Start) e))
        (all_run (EndsOn d level) (page_room level) (x ∷ xs) i (ends_on d level x e low.0, ends))
