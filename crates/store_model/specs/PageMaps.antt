-- Pages as a finite map, each under its label.
use Rattle.std.specs.Prelude.{◌≡◌, ℕ, ◌≤◌, List, map, Option, Some}
use Rattle.std.specs.FinMap as maps
use Rattle.std.specs.Ordering.{nat_cmp}
use Rattle.std.specs.Cmp.Lexicographic.{slice_cmp}
use Rattle.store_model.specs.Labels.{Label, label_bytes}
use Rattle.store_model.specs.Draws.{Draw}
use Rattle.store_model.specs.Pages.{Page, IsPage}
use Rattle.store_model.specs.Placement.{Table, place, pages_in, IsOrderedTable}
use Rattle.store_model.specs.Images.{slots_of}

-- a finite map from labels, each as its 130 bytes, to pages
abbrev pub PageMap : Type 0
PageMap = maps.FinMap (slice_cmp nat_cmp) Page

-- the page under a label
abbrev pub page_at : PageMap → Label → Option Page
page_at m l = maps.get m (label_bytes l)

-- the map with the page under its label
abbrev pub with_page : PageMap → Page → PageMap
with_page m page = maps.insert m (label_bytes page.label) page

-- the map with nothing under the label
abbrev pub without_page : PageMap → Label → PageMap
without_page m l = maps.remove m (label_bytes l)

-- each of the pages under its label; they have distinct labels
abbrev pub map_of_pages : List Page → PageMap
map_of_pages pages = maps.from_entries (map (λ page. (label_bytes page.label, page)) pages)

-- the pages of a map, by rank
abbrev pub pages_of_map : PageMap → List Page
pages_of_map m = maps.values m

-- what a map has under some bytes: a page, and the bytes are those of its label
pub record IsUnder (bytes : List ℕ) (page : Page) : Type 0 where
  pub valid : IsPage page
  pub under : bytes ≡ label_bytes page.label

-- each page of the map is one, and stands under its label
abbrev pub IsPageMap : PageMap → Type 0
IsPageMap m = (bytes : List ℕ) (page : Page) → maps.get m bytes ≡ Some page → IsUnder bytes page

-- The slots hold the pages of the map, each in one slot, every other slot is zero, and they are in order: they are the
-- placement of the pages.
pub record HoldsPages (d : Draw) (slots : List (List ℕ)) (m : PageMap) : Type 0 where
  pub pages : IsPageMap m
  pub fits : maps.len m ≤ d.slots
  pub slots_are : slots ≡ slots_of (place d (pages_of_map m))

-- The slots are those of an ordered table with the pages of the map. Slots that hold a map have one such table.
pub record IsTableOf (d : Draw) (slots : List (List ℕ)) (m : PageMap) (table : Table) : Type 0 where
  pub ordered : IsOrderedTable d table
  pub slots_are : slots ≡ slots_of table
  pub pages_are : map_of_pages (pages_in table) ≡ m
