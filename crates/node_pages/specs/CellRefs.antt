-- A cell whose value its page lends.
use Rattle.std.specs.Option.{option_map}
use Rattle.store_model.specs.Pages.{Cell}
use Rattle.node_pages.specs.declared.cell.CellRef.{CellRef}

-- the cell, with the value as it is now
abbrev pub cell_of : CellRef → Cell
cell_of cell = record { key = cell.key; value = option_map (λ value. value.now) cell.value }
