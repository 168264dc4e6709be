-- A cell inserted into one of the pages in memory.
use Rattle.std.proofs.Common.{◌≡◌, ◌↔◌, ℕ, List, map, get_or, set, Bool, true, IsTrue, Some, None, sym, ap, subst, ◌∙◌}
use Rattle.std.specs.List.{AllByRecursion}
use Rattle.std.specs.FinMap.{is_sorted}
use Rattle.store_model.specs.Paths.{key_cmp}
use Rattle.store_model.specs.Labels.{Label, label_bytes}
use Rattle.store_model.specs.Pages.{Cell, Page, IsPage}
use Rattle.store_model.specs.PageMaps.{PageMap, page_at, with_page}
use Rattle.node_pages.specs.Insertions.{TakesCell, with_cell}
use Rattle.node_pages.specs.PageEntries.{entry_of, map_of_sorted}
use Rattle.node_pages.specs.EntriesLemmas.{IsPageMap-sorted}
use Rattle.node_pages.specs.PagesState.{HasPlace}
use Rattle.node_pages.specs.EntryPlaces.{StandsAt}
use Rattle.node_pages.proofs.EntryLemmas.{AreMap, item_there, item_overwritten}

-- what a map has under a label is one page
pub one_page : (m : PageMap) (label : Label) (p q : Page) → page_at m label ≡ Some p → page_at m label ≡ Some q → p ≡ q
one_page m label p q h g = cc

-- the page took the cell, and the pages are the map with it
pub record IsInsertedIn (m : PageMap) (pages : List Page) (label : Label) (old : Page) (at : ℕ) (cell : Cell)
    (took : Bool) : Type 1 where
  pub found : page_at m label ≡ Some old
  pub took_it : took ≡ true
  pub left : AreMap pages (with_page m (with_cell old at cell))

-- so they are the map with it in any page that is there
pub inserted_in : (m : PageMap) (pages : List Page) (label : Label) (old page : Page) (at : ℕ) (cell : Cell)
    (took : Bool) → IsInsertedIn m pages label old at cell took → page_at m label ≡ Some page
    → map_of_sorted pages ≡ with_page m (with_cell page at cell)
inserted_in m pages label old page at cell took done found =
    done.left.map_is ∙ ap (λ (p : Page). with_page m (with_cell p at cell)) (one_page m label old page done.found found)

module _ {B : Type 0} (page_of : B → Page) (items : List B)
    (sorted : IsTrue (is_sorted key_cmp (map entry_of (map page_of items))))
    (valid : AllByRecursion IsPage (map page_of items)) where
  pub cell_inserted : (label : Label) (at : ℕ) (cell : Cell) (place : ℕ) (item changed : B) (old : Page) (took : Bool)
      → HasPlace (map_of_sorted (map page_of items)) label at cell
      → item ≡ get_or items place item → old ≡ page_of item
      → StandsAt (map entry_of (map page_of items)) (label_bytes label) place
      → (IsTrue took ↔ TakesCell old at cell) → (took ≡ true → page_of changed ≡ with_cell old at cell)
      → IsInsertedIn (map_of_sorted (map page_of items)) (map page_of (set items place changed)) label old at cell took
  cell_inserted label at cell place item changed old took has is old_is stands answer value =
      let found = item_there page_of items sorted valid label place item is stands ∙ ap Some (sym old_is) in
      let takes = subst (λ (p : Page). TakesCell p at cell)
      (one_page (map_of_sorted (map page_of items)) label has.page old has.found found) has.takes in
      let took_it = answer.1 takes in
      let under = (IsPageMap-sorted (map page_of items) sorted valid (label_bytes label) old found).under in
      record {
        found = found;
        took_it = took_it;
        left = item_overwritten page_of items sorted valid changed (with_cell old at cell) place
            (value took_it) takes.valid
            (subst (λ (k : List ℕ). StandsAt (map entry_of (map page_of items)) k place) under stands);
      }

-- a page that is there has a place
pub has_no_place : (m : PageMap) (label : Label) (at : ℕ) (cell : Cell) → HasPlace m label at cell
    → page_at m label ≡ None → ⊥
has_no_place m label at cell has none = let here = has.found in cc
