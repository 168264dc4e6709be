use Rattle.std.proofs.Common.{◌≡◌, ◌-◌, ◌++◌, length, drop, ap, ◌∙◌, sym, refl, arith, Some}
use Rattle.std.proofs.lemmas.List.{length-drop, length-take-le, length-append}
use Rattle.store_model.specs.Lists.{zeros, zero_filled}
use Rattle.store_model.specs.Pages.{Cell}
use Rattle.store_model.specs.Images.{value_bytes}
use Rattle.node_pages.proofs.CellBytes.{key_fits, value_fits, behind_key, zeros_behind, cell_written, key_written}
use Rattle.node_pages.proofs.cell_bytes.write_cell.Goals as goal

pub slice_bounds-copy_from_slice-end : goal.slice_bounds-copy_from_slice-end
slice_bounds-copy_from_slice-end c =
    let long : length c.args.cell.now.key ≡ 124 = ap (λ (cell : Cell). length cell.key) (sym c.cell.view_is)
    ∙ c.as_bytes-key.ensures.valid.0 in
    key_fits c.args.cell.now (length c.args.area.now) long c.requires.room

pub slice_bounds-copy_from_slice-end-2 : goal.slice_bounds-copy_from_slice-end-2
slice_bounds-copy_from_slice-end-2 c =
    let long : length c.args.cell.now.key ≡ 124 = ap (λ (cell : Cell). length cell.key) (sym c.cell.view_is)
    ∙ c.as_bytes-key.ensures.valid.0 in
    sym (length-take-le 124 c.args.area.now (key_fits c.args.cell.now (length c.args.area.now) long c.requires.room))

pub copy_from_slice-requires : goal.copy_from_slice-requires
copy_from_slice-requires c =
    let long : length c.args.cell.now.key ≡ 124 = ap (λ (cell : Cell). length cell.key) (sym c.cell.view_is)
    ∙ c.as_bytes-key.ensures.valid.0 in
    length-take-le 124 c.args.area.now (key_fits c.args.cell.now (length c.args.area.now) long c.requires.room)
    ∙ sym (ap length c.as_bytes-key.ensures.value ∙ c.as_bytes-key.ensures.valid.0)

pub write_value-requires-clause-zeros : goal.write_value-requires-clause-zeros
write_value-requires-clause-zeros c =
    let key_long : length c.copy_from_slice.new.self ≡ 124 =
    ap length c.copy_from_slice.ensures.after ∙ ap length c.as_bytes-key.ensures.value
    ∙ c.as_bytes-key.ensures.valid.0 in
    let behind = behind_key c.args.area.now c.copy_from_slice.new.self _ key_long refl in
    behind ∙ zeros_behind c.args.area.now 124 c.requires.zeros ∙ ap (λ xs. zeros (length xs)) (sym behind)

pub write_value-requires-clause-room : goal.write_value-requires-clause-room
write_value-requires-clause-room c =
    let long : length c.args.cell.now.key ≡ 124 = ap (λ (cell : Cell). length cell.key) (sym c.cell.view_is)
    ∙ c.as_bytes-key.ensures.valid.0 in
    let value_is = ap (λ (cell : Cell). cell.value) (sym c.cell.view_is) ∙ c.in-Some.is in
    let fits = value_fits c.args.cell.now c.in-Some.value (length c.args.area.now) long value_is c.requires.room in
    let key_long : length c.copy_from_slice.new.self ≡ 124 =
    ap length c.copy_from_slice.ensures.after ∙ ap length c.as_bytes-key.ensures.value
    ∙ c.as_bytes-key.ensures.valid.0 in
    let behind = behind_key c.args.area.now c.copy_from_slice.new.self _ key_long refl in
    omega (arith, fits, ap length behind, length-drop 124 c.args.area.now)

pub returns-in-Some : goal.returns-in-Some
returns-in-Some c =
    let long : length c.args.cell.now.key ≡ 124 = ap (λ (cell : Cell). length cell.key) (sym c.cell.view_is)
    ∙ c.as_bytes-key.ensures.valid.0 in
    let value_is = ap (λ (cell : Cell). cell.value) (sym c.cell.view_is) ∙ c.in-Some.is in
    let key_is : c.copy_from_slice.new.self ≡ c.args.cell.now.key =
    c.copy_from_slice.ensures.after ∙ c.as_bytes-key.ensures.value
    ∙ ap (λ (cell : Cell). cell.key) c.cell.view_is in
    let key_long : length c.copy_from_slice.new.self ≡ 124 = ap length key_is ∙ long in
    let behind = behind_key c.args.area.now c.copy_from_slice.new.self _ key_long refl in
    let tail = c.write_value.ensures ∙ ap (λ n. zero_filled n (value_bytes (Some c.in-Some.value)))
    (ap length behind ∙ length-drop 124 c.args.area.now) in
    cell_written c.args.area.now c.copy_from_slice.new.self c.write_value.new.area c.in-Some.value c.args.cell.now
    (length (c.copy_from_slice.new.self ++ drop 124 c.args.area.now) - 124)
    key_is long value_is
    (omega (
      arith,
      length-append c.copy_from_slice.new.self (drop 124 c.args.area.now),
      length-drop 124
          c.args.area.now,
      key_long,
    )) tail

pub returns-in_default : goal.returns-in_default
returns-in_default c =
    let long : length c.args.cell.now.key ≡ 124 = ap (λ (cell : Cell). length cell.key) (sym c.cell.view_is)
    ∙ c.as_bytes-key.ensures.valid.0 in
    let value_is = ap (λ (cell : Cell). cell.value) (sym c.cell.view_is) ∙ c.in_default.is in
    let key_is : c.copy_from_slice.new.self ≡ c.args.cell.now.key =
    c.copy_from_slice.ensures.after ∙ c.as_bytes-key.ensures.value
    ∙ ap (λ (cell : Cell). cell.key) c.cell.view_is in
    key_written c.args.area.now c.copy_from_slice.new.self c.args.cell.now c.requires.zeros key_is long value_is
