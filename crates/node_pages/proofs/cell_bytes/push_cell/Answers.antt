use Rattle.std.proofs.Common.{◌++◌, take, ℕ, List, sym, ap, ◌∙◌, arith}
use Rattle.store_model.specs.Images.{cell_bytes}
use Rattle.node_pages.proofs.CellBytes.{length-cell_bytes}
use Rattle.node_pages.proofs.CellLists.{size_most}
use Rattle.node_pages.proofs.PackedLists.{front_of_filled}
use Rattle.node_pages.proofs.cell_bytes.push_cell.Goals as goal

pub write_cell-requires-clause-room : goal.write_cell-requires-clause-room
write_cell-requires-clause-room c =
    omega (arith, length-cell_bytes c.args.level c.args.cell.now c.requires, size_most c.args.level)

pub returns-clause-ok : goal.returns-clause-ok
returns-clause-ok c =
    c.in_ok-extend_from_slice.ensures.items
    ∙ ap (λ (xs : List ℕ). c.args.bytes.now.items ++ xs)
    (ap (take c.cell_len.result) c.write_cell.ensures
    ∙ front_of_filled _ c.cell_len.result (cell_bytes c.args.cell.now)
    (length-cell_bytes c.args.level c.args.cell.now c.requires ∙ sym c.cell_len.ensures))
