-- Lists of cells of one level, as bytes hold them.
use Rattle.std.specs.Prelude.{ℕ, ◌<◌, length, List}
use Rattle.std.specs.List.{AllByRecursion}
use Rattle.store_model.specs.Pages.{Cell, IsCell}
use Rattle.node_pages.specs.PageSlots.{cells_in}

-- cells of one level
pub record CellList : Type 0 where
  pub level : ℕ
  pub cells : List Cell

-- what a list of cells can be
pub record IsCellList (list : CellList) : Type 0 where
  pub level : list.level < 256
  pub each : AllByRecursion (IsCell list.level) list.cells
  pub few : length list.cells < 4294967296

-- the list of so many cells that bytes are, one cell behind the other
abbrev pub list_in : ℕ → ℕ → List ℕ → CellList
list_in level count bytes = record { level = level; cells = cells_in level count bytes }
