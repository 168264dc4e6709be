use Rattle.std.proofs.Common.{◌≡◌, ◌+◌, ◌*◌, ◌++◌, take, drop, set, length, slice_index, ap, ◌∙◌, arith}
use Rattle.std.proofs.lemmas.List.{take_all, length-drop, drop-set-lt}
use Rattle.store_model.specs.Labels.{Label}
use Rattle.store_model.specs.Images.{cell_bytes}
use Rattle.node_pages.specs.CellAreas.{cell_size}
use Rattle.node_pages.proofs.Inserted.{slot_with}
use Rattle.node_pages.proofs.page.put_before.Goals as goal

pub returns : goal.returns
returns c =
    let slot = c.args.slot.now in
    let counted = set slot 131 (slice_index slot 131 + 1) in
    let area = take 3964 (drop 132 counted) in
    let level_is = ap (λ (l : Label). l.level) c.label.view_is in
    let size = c.cell_len-size.result in
    let kept : drop 132 counted ≡ drop 132 slot = drop-set-lt 132 slot 131 (slice_index slot 131 + 1) (omega arith) in
    let area_is : area ≡ drop 132 slot =
    take_all 3964 (drop 132 counted) (omega (arith, ap length kept, length-drop 132 slot, c.told-slot)) ∙ kept in
    let from = size * c.args.at in
    let end = size * c.from.result in
    slot_with c.args.label.now slot area c.insert_cell.new.area c.args.at from end size
    c.args.cell.now c.requires.holds c.told-slot c.requires.within c.requires.cell area_is
    (c.cell_len-size.ensures ∙ ap cell_size level_is) (omega arith) (ap (λ n. size * n) c.from.ensures)
    (c.insert_cell.ensures ∙ ap (λ n. take from area ++ cell_bytes c.args.cell.now ++ drop from (take end area)
    ++ drop (end + cell_size n) area) level_is)
