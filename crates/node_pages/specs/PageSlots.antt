-- Where the cells of a page lie in its slot, and how they are read there.
use Rattle.std.specs.Prelude.{◌≡◌, ℕ, zero, suc, ◌+◌, ◌-◌, ◌<◌, ◌*◌, List, [], ◌∷◌, ◌++◌, take, drop, Option, Some}
use Rattle.std.specs.Prelude.{None, slice_index}
use Rattle.std.specs.Int.{w16, from_be_bytes}
use Rattle.std.specs.List.{flat_map, AllByRecursion}
use Rattle.store_model.specs.Lists.{zero_filled}
use Rattle.store_model.specs.Labels.{Label}
use Rattle.store_model.specs.Pages.{Cell, Page, IsCell, IsPage}
use Rattle.store_model.specs.Images.{cell_bytes, page_bytes}
use Rattle.node_pages.specs.CellAreas.{cell_size}

-- the value behind a key of a level: at level 0 alone, behind its length in two bytes
abbrev pub value_in : ℕ → List ℕ → Option (List ℕ)
value_in zero bytes = Some (take (from_be_bytes w16 bytes) (drop 2 bytes))
value_in (suc level) bytes = None

-- the cell of a level that these bytes spell
unfoldable pub cell_in : ℕ → List ℕ → Cell
cell_in level bytes = record { key = take 124 bytes; value = value_in level (drop 124 bytes) }

-- so many cells, one behind the other
unfoldable pub cells_in : ℕ → ℕ → List ℕ → List Cell
cells_in level zero bytes = []
cells_in level (suc count) bytes = cell_in level (take (cell_size level) bytes)
    ∷ cells_in level count (drop (cell_size level) bytes)

-- bytes are those of so many cells of the level, and no others
pub record ArePacked (level count : ℕ) (bytes : List ℕ) : Type 0 where
  pub low : level < 256
  pub few : count < 4294967296
  pub each : AllByRecursion (IsCell level) (cells_in level count bytes)
  pub spelled : flat_map cell_bytes (cells_in level count bytes) ≡ bytes

-- the page of a label whose cells stand in a slot: their number at byte 131, and then the cells
abbrev pub page_in : Label → List ℕ → Page
page_in label slot = record { label = label; cells = cells_in label.level (slice_index slot 131) (drop 132 slot) }

-- the slot holds a page of that label
pub record IsSlotOf (label : Label) (slot : List ℕ) : Type 0 where
  pub page : IsPage (page_in label slot)
  pub bytes : page_bytes (page_in label slot) ≡ slot

-- the slot of a page of the level with one more cell, whose bytes are given: it is counted, and stands behind the
-- others
abbrev pub appended : ℕ → List ℕ → List ℕ → List ℕ
appended level slot bytes =
    let before = cell_size level * slice_index slot 131 in
    take 131 slot ++ (slice_index slot 131 + 1) ∷ (take before (drop 132 slot) ++ zero_filled (3964 - before) bytes)
