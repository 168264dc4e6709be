-- Which keys may stand in a run, cell by cell.
use Rattle.std.proofs.Common.{◌≡◌, ℕ, zero, suc, ◌<◌, ◌≤◌, ◌⊎◌, inl, inr, List, [], ◌∷◌, ◌++◌, Some, length, take, drop}
use Rattle.std.proofs.Common.{slice_get, refl, sym, ap, subst, ◌∙◌, arith}
use Rattle.std.specs.List.{Contains, AllByRecursion}
use Rattle.std.specs.List.Sorted.{IsStrictlySortedBy}
use Rattle.std.specs.declared.cmp.Ordering.TheVariants.{Less}
use Rattle.std.proofs.lemmas.List.{take-append-drop}
use Rattle.std.proofs.lemmas.List.Elements.{Contains-append_right}
use Rattle.std.proofs.lemmas.Option.{same_Some, slice_get_within, get_or_from_slice_get}
use Rattle.store_model.specs.Paths.{key_cmp}
use Rattle.store_model.specs.Labels.{Lead}
use Rattle.store_model.specs.Labels.Lead.{Start, Leader}
use Rattle.store_model.specs.Draws.{Draw}
use Rattle.store_model.specs.Pages.{Cell, Page, IsPage}
use Rattle.store_model.proofs.ListsLemmas.{rising_from_map, rising_head, rising_tail}
use Rattle.store_model.proofs.ListsLemmasOrder.{held_cases, held_first, held_all}
use Rattle.layout_conditions.specs.Pages.{EndsOn, AreRunOf}
use Rattle.table_walk.specs.Streams.{cell_order}
use Rattle.table_walk.specs.Walked.{LeadsOn, IsInPlace}
use Rattle.table_walk.proofs.KeyOrder.{none_in}

-- ---- elements by their numbers

pub held_at : {X : Type 0} (xs : List X) (i : ℕ) (x : X) → slice_get xs i ≡ Some x → Contains xs x
held_at xs i x is = (i, slice_get_within xs i x is, get_or_from_slice_get xs i x x is)

drop_next : {X : Type 0} (xs : List X) (i : ℕ) (x : X) → slice_get xs i ≡ Some x → drop i xs ≡ x ∷ drop (suc i) xs
drop_next [] i x is = absurd (cc)
drop_next (y ∷ ys) zero x is = ap (λ z. z ∷ ys) (same_Some y x is)
drop_next (y ∷ ys) (suc i) x is = drop_next ys i x is

all_at : {X : Type 0} (P : X → Type 0) (xs : List X)
    → ((i : ℕ) (x : X) → slice_get xs i ≡ Some x → P x) → AllByRecursion P xs
all_at P [] each = tt
all_at P (x ∷ xs) each = (each 0 x refl, all_at P xs (λ i y is. each (suc i) y is))

-- the elements before one that rise
below_next : (front back : List Cell) (cell other : Cell) → IsStrictlySortedBy cell_order (front ++ cell ∷ back)
    → Contains front other → cell_order other cell ≡ Less
below_next [] back cell other up held = absurd (none_in other held)
below_next (c ∷ cs) back cell other up held =
    by_place (below_next cs back cell other (rising_tail cell_order c (cs ++ cell ∷ back) up))
    (held_cases c cs other held)
  where
    by_place : (Contains cs other → cell_order other cell ≡ Less) → (c ≡ other) ⊎ Contains cs other
        → cell_order other cell ≡ Less
    by_place rest (inl same) = subst (λ (o : Cell). cell_order o cell ≡ Less) same
        (held_all (λ o. cell_order c o ≡ Less) (cs ++ cell ∷ back) cell
        (rising_head cell_order c (cs ++ cell ∷ back) up)
        (Contains-append_right cs (cell ∷ back) cell (held_first cell back)))
    by_place rest (inr later) = rest later

-- the cells of a page before one have smaller keys
pub below_in_page : (page : Page) (i : ℕ) (cell other : Cell) → IsPage page → slice_get page.cells i ≡ Some cell
    → Contains (take i page.cells) other → key_cmp other.key cell.key ≡ Less
below_in_page page i cell other valid is held =
    let parts : page.cells ≡ take i page.cells ++ cell ∷ drop (suc i) page.cells =
    sym (take-append-drop i page.cells) ∙ ap (λ (rest : List Cell). take i page.cells ++ rest)
    (drop_next page.cells i cell is) in
    below_next (take i page.cells) (drop (suc i) page.cells) cell other
    (subst (IsStrictlySortedBy cell_order) parts (rising_from_map key_cmp (λ c. c.key) page.cells valid.rising))
    held

-- ---- places

pub run_of_places : (d : Draw) (level : ℕ) (lead : Lead) (index : ℕ) (cells : List Cell)
    → 1 ≤ length cells → LeadsOn d level lead
    → ((i : ℕ) (cell : Cell) → slice_get cells i ≡ Some cell → IsInPlace d level lead index i cell.key)
    → AreRunOf d level lead index cells
run_of_places d level Start index cells some leads places = all_at (EndsOn d level) cells places
run_of_places d level (Leader key) (suc index) cells some leads places = all_at (EndsOn d level) cells places
run_of_places d level (Leader key) zero [] some leads places = absurd (omega arith)
run_of_places d level (Leader key) zero (cell ∷ cells) some leads places =
    (places 0 cell refl, leads, all_at (EndsOn d level) cells (λ i other is. places (suc i) other is))

pub place_of_run : (d : Draw) (level : ℕ) (lead : Lead) (index : ℕ) (cells : List Cell) (i : ℕ) (cell : Cell)
    → AreRunOf d level lead index cells → slice_get cells i ≡ Some cell → IsInPlace d level lead index i cell.key
place_of_run d level Start index cells i cell run is =
    held_all (EndsOn d level) cells cell run (held_at cells i cell is)
place_of_run d level (Leader key) (suc index) cells i cell run is =
    held_all (EndsOn d level) cells cell run (held_at cells i cell is)
place_of_run d level (Leader key) zero [] i cell run is = absurd run
place_of_run d level (Leader key) zero (first ∷ cells) zero cell run is =
    ap (λ (c : Cell). c.key) (sym (same_Some first cell is)) ∙ run.0
place_of_run d level (Leader key) zero (first ∷ cells) (suc i) cell run is =
    held_all (EndsOn d level) cells cell run.2 (held_at cells i cell is)

-- a key in its place stands on the level
pub level_of_place : (d : Draw) (level : ℕ) (lead : Lead) (index i : ℕ) (key : List ℕ) → LeadsOn d level lead
    → IsInPlace d level lead index i key → level ≤ d.level key
level_of_place d level Start index i key leads place = omega (arith, place)
level_of_place d level (Leader leader) (suc index) i key leads place = omega (arith, place)
level_of_place d level (Leader leader) zero zero key leads place = let above : level < d.level key =
    subst (λ (k : List ℕ). level < d.level k) (sym place) leads in omega (arith, above)
level_of_place d level (Leader leader) zero (suc i) key leads place = omega (arith, place)
