use Rattle.std.proofs.Common.{◌≡◌, ◌+◌, ◌-◌, ◌++◌, length, drop, take, ap, ◌∙◌, sym, arith}
use Rattle.std.proofs.lemmas.List.{length-take-le}
use Rattle.store_model.specs.Lists.{zero_filled}
use Rattle.store_model.specs.Images.{cell_bytes}
use Rattle.node_pages.proofs.CellBytes.{length-cell_bytes}
use Rattle.node_pages.proofs.Inserted.{filled_whole, cell_put, opened_room}
use Rattle.node_pages.proofs.cell_bytes.insert_cell.Goals as goal

pub write_cell-requires-clause-room : goal.write_cell-requires-clause-room
write_cell-requires-clause-room c =
    let from = c.args.from in
    let size = c.cell_len-size.result in
    let long = opened_room c.args.area.now c.make_room.new.area from c.args.end size
    (from + size - from) c.requires.order (omega (arith, c.requires.room, c.cell_len-size.ensures))
    (omega arith) c.make_room.ensures in
    omega (arith, long, length-cell_bytes c.args.level c.args.cell.now c.requires.cell, c.cell_len-size.ensures)

pub returns : goal.returns
returns c =
    let area = c.args.area.now in
    let from = c.args.from in
    let end = c.args.end in
    let size = c.cell_len-size.result in
    let bytes = cell_bytes c.args.cell.now in
    let size_is = c.cell_len-size.ensures in
    let k : from + size - from ≡ size = omega arith in
    let long = opened_room area c.make_room.new.area from end size
    (from + size - from) c.requires.order (omega (arith, c.requires.room, size_is)) k c.make_room.ensures in
    let whole : length bytes ≡ size = length-cell_bytes c.args.level c.args.cell.now c.requires.cell ∙ sym size_is in
    cell_put (take from area) (drop from (take end area))
    (drop (end + size) area) c.make_room.new.area c.write_cell.new.area bytes from size (from + size - from)
    (length-take-le from area (omega (arith, c.requires.order, c.requires.room))) k
    c.make_room.ensures (c.write_cell.ensures ∙ ap (λ n. zero_filled n bytes) long ∙ filled_whole size bytes whole)
    ∙ ap (λ n. take from area ++ bytes ++ drop from (take end area) ++ drop (end + n) area) size_is
