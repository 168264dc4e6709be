-- The pairs that a map of pages holds, and when it holds the pages of a whole list.
use Rattle.std.specs.Prelude.{ℕ, List, [], ◌∷◌, Bool, Option, Some, None, IsTrue}
use Rattle.std.specs.List.{flat_map}
use Rattle.store_model.specs.Draws.{Draw}
use Rattle.store_model.specs.Pairs.{Pair}
use Rattle.store_model.specs.Pages.{Cell, Page}
use Rattle.store_model.specs.PageMaps.{PageMap, pages_of_map}
use Rattle.node_pages.specs.PagesState.{PagesState, IsObservable}
use Rattle.ordered_pairs.specs.PairsState.{PairsState}
use Rattle.skip_levels.specs.Descent.{HoldsPairs, IsKnownGroup}
use Rattle.skip_levels.specs.declared.walk.PathEnd.{PathEnd}

-- the pair of a cell, if it has a value
abbrev pub pairs_with : List ℕ → Option (List ℕ) → List Pair
pairs_with key None = []
pairs_with key (Some value) = (key, value) ∷ []

-- the pairs of some cells
abbrev pub pairs_of_cells : List Cell → List Pair
pairs_of_cells cells = flat_map (λ cell. pairs_with cell.key cell.value) cells

-- the pairs of some pages, in their order: cells have values on level 0 alone
abbrev pub pairs_of_pages : List Page → List Pair
pairs_of_pages pages = pairs_of_cells (flat_map (λ page. page.cells) pages)

-- the pairs of a map of pages, by rank of their pages
unfoldable pub pairs_of_map : PageMap → List Pair
pairs_of_map m = pairs_of_pages (pages_of_map m)

-- the pages mean something, and hold a list that is whole: no change of it failed
abbrev pub IsHeld : Draw → Bool → PagesState → Type 0
IsHeld d is_whole pages = IsTrue is_whole × (IsObservable pages × HoldsPairs d (pairs_of_map pages.pages) pages.pages)

-- a list over pages
abbrev pub list_over : Draw → Bool → PagesState → PairsState
list_over d is_whole pages = record {
  is_observable = IsHeld d is_whole pages;
  pairs = pairs_of_map pages.pages;
  faults = pages.faults;
}

-- What a list over pages keeps: where it is whole and they mean something, they hold its pairs, and what is known is
-- right of these.
pub record KeepsList (d : Draw) (is_whole : Bool) (pages : PagesState) (known : Option PathEnd) : Type 0 where
  pub whole : IsTrue is_whole → IsObservable pages → HoldsPairs d (pairs_of_map pages.pages) pages.pages
  pub place : IsTrue is_whole → IsObservable pages → IsKnownGroup d (pairs_of_map pages.pages) known
