use Rattle.std.proofs.Common.{◌≡◌, ◌-◌, ◌≤◌, length, true, sym, ap, ◌∙◌, arith}
use Rattle.std.specs.Ordering.{is_le}
use Rattle.store_model.specs.Paths.{key_cmp}
use Rattle.store_model.specs.Pages.{page_room}
use Rattle.skip_groups.specs.Floors.{is_not_above}
use Rattle.skip_groups.proofs.GroupEnds.{no_room, some_cells}
use Rattle.skip_groups.proofs.Halving.{prefix_len-le, key_passes}
use Rattle.skip_groups.proofs.group_search.count_in_group.Goals as goal

pub key_bytes-requires : goal.key_bytes-requires
key_bytes-requires c =
    let full : page_room c.args.level ≤ length c.args.page.now.cells =
    no_room c.is_last.result _ _ c.is_last.ensures c.if-is_last.false in
    omega (
      arith,
      c.len-all.ensures.value,
      some_cells c.args.level 1
          (length c.args.page.now.cells) (omega (arith, full)),
    )

pub returns-then-is_le-clause-count : goal.returns-then-is_le-clause-count
returns-then-is_le-clause-count c =
    let same : c.as_bytes.result.now ≡ c.args.key.now = c.as_bytes.ensures.value in
    let full : page_room c.args.level ≤ length c.args.page.now.cells =
    no_room c.is_last.result _ _ c.is_last.ensures c.if-is_last.false in
    let some = some_cells c.args.level 1 (length c.args.page.now.cells) (omega (arith, full)) in
    let passes : is_le (key_cmp c.key_bytes.result.now c.args.key.now) ≡ true =
    ap (λ bytes. is_le (key_cmp c.key_bytes.result.now bytes)) (sym same) ∙ ap is_le (sym c.byte_order.ensures)
    ∙ sym c.is_le.ensures ∙ c.if-is_le.true in
    let past = key_passes c.args.key.now c.key_bytes.result.now c.args.page.now.cells (c.len-all.result - 1)
    c.key_bytes.ensures.valid.0.rising (omega (arith, some, c.len-all.ensures.value))
    c.key_bytes.ensures.value passes in
    omega (
      arith,
      past,
      some,
      prefix_len-le (is_not_above c.args.key.now) c.args.page.now.cells,
      c.len-all.ensures.value,
    )
