use Rattle.node_pages.proofs.CellLists.{GoesOn}
use Rattle.node_pages.proofs.cell_area.are_cells.Given as goal

abbrev pub invariant-loop : goal.invariant-loop
invariant-loop l = GoesOn l.level l.fn.count l.counter l.fn.bytes l.last l.rest
