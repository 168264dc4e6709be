use Rattle.std.proofs.Common.{◌≡◌, ◌+◌, ◌-◌, ◌*◌, ◌≤◌, ℕ, List, length, take, drop, set, slice_index, ap, ap₂, sym, ◌∙◌}
use Rattle.std.proofs.Common.{arith, mul-suc, suc}
use Rattle.std.proofs.lemmas.List.{take_all}
use Rattle.store_model.specs.Labels.{Label}
use Rattle.store_model.specs.Lists.{zeros, zero_filled}
use Rattle.store_model.specs.Images.{cell_bytes}
use Rattle.node_pages.specs.CellAreas.{cell_size}
use Rattle.node_pages.proofs.Filled.{length-zeros}
use Rattle.node_pages.proofs.CellBytes.{length-cell_bytes}
use Rattle.node_pages.proofs.PageBytes.{appended_is, blank_at, cells_fit}
use Rattle.node_pages.proofs.page.append.Goals as goal

-- the area behind the cells of a slot, after the count rose
behind : (slot : List ℕ) (level at : ℕ) → at ≡ 132 + cell_size level * slice_index slot 131
    → drop (cell_size level * slice_index slot 131) (drop 132 slot)
    ≡ zeros (3964 - cell_size level * slice_index slot 131)
    → take (4096 - at) (drop at (set slot 131 (slice_index slot 131 + 1)))
    ≡ zeros (3964 - cell_size level * slice_index slot 131)
behind slot level at at_is blank =
    let here = blank_at slot level at at_is blank in
    take_all (4096 - at) (drop at (set slot 131 (slice_index slot 131 + 1)))
    (omega (arith, ap length here, length-zeros (3964 - cell_size level * slice_index slot 131))) ∙ here

-- where a cell begins
at_is : (label : Label) (slot : List ℕ) (level len count : ℕ) → level ≡ label.level → len ≡ cell_size level
    → count ≡ slice_index slot 131 → 132 + len * count ≡ 132 + cell_size label.level * slice_index slot 131
at_is label slot level len count level_is len_is count_is =
    ap₂ (λ m n. 132 + m * n) (len_is ∙ ap cell_size level_is) count_is

pub write_cell-requires-clause-zeros : goal.write_cell-requires-clause-zeros
write_cell-requires-clause-zeros c =
    let here = at_is c.args.label.now c.args.slot.now c.label.inside.level c.cell_len.result c.from.result
    (ap (λ (l : Label). l.level) c.label.view_is) c.cell_len.ensures c.from.ensures in
    let area = behind c.args.slot.now c.args.label.now.level (132 + c.cell_len.result * c.from.result)
    here c.requires.blank in
    area ∙ ap zeros (sym (length-zeros (3964 - cell_size c.args.label.now.level * slice_index c.args.slot.now 131))
    ∙ sym (ap length area))

pub write_cell-requires-clause-room : goal.write_cell-requires-clause-room
write_cell-requires-clause-room c =
    let level = c.args.label.now.level in
    let count = slice_index c.args.slot.now 131 in
    let here = at_is c.args.label.now c.args.slot.now c.label.inside.level c.cell_len.result c.from.result
    (ap (λ (l : Label). l.level) c.label.view_is) c.cell_len.ensures c.from.ensures in
    let area = ap length (behind c.args.slot.now level (132 + c.cell_len.result * c.from.result) here c.requires.blank)
    ∙ length-zeros (3964 - cell_size level * count) in
    omega (
      arith,
      area,
      cells_fit level (suc count) c.requires.room,
      mul-suc (cell_size level) count,
      length-cell_bytes level c.args.cell.now c.requires.cell,
    )

pub returns : goal.returns
returns c =
    let level = c.args.label.now.level in
    let count = slice_index c.args.slot.now 131 in
    let here = at_is c.args.label.now c.args.slot.now c.label.inside.level c.cell_len.result c.from.result
    (ap (λ (l : Label). l.level) c.label.view_is) c.cell_len.ensures c.from.ensures in
    let area = ap length (behind c.args.slot.now level (132 + c.cell_len.result * c.from.result) here c.requires.blank)
    ∙ length-zeros (3964 - cell_size level * count) in
    let fits : 132 + c.cell_len.result * c.from.result ≤ 4096 =
    omega (arith, here, cells_fit level (suc count) c.requires.room, mul-suc (cell_size level) count) in
    appended_is c.args.slot.now c.write_cell.new.area level (132 + c.cell_len.result * c.from.result)
    (4096 - (132 + c.cell_len.result * c.from.result)) (cell_bytes c.args.cell.now)
    c.told-slot here fits (omega arith) (c.write_cell.ensures
    ∙ ap (λ n. zero_filled n (cell_bytes c.args.cell.now)) area)
