use Rattle.std.proofs.Common.{◌≡◌, true, false, sym, ap, ◌∙◌, arith}
use Rattle.std.specs.Ordering.{is_le}
use Rattle.store_model.specs.Paths.{key_cmp}
use Rattle.skip_groups.specs.Floors.{is_not_above}
use Rattle.skip_groups.proofs.Halving.{prefix_len-le, key_passes, key_stops}
use Rattle.skip_groups.proofs.group_search.count_not_above.Goals as goal

pub loop-low-init : goal.loop-low-init
loop-low-init c =
    let most = prefix_len-le (is_not_above c.args.key.now) c.args.page.now.cells in
    record {
      low = omega arith;
      high = omega (arith, c.len-high.ensures.value);
      within = omega (arith, c.len-high.ensures.value);
    }

pub loop-low-preserved-then-is_le : goal.loop-low-preserved-then-is_le
loop-low-preserved-then-is_le c =
    let same : c.as_slice-wanted.result.now ≡ c.args.key.now = c.as_slice-wanted.ensures ∙ c.as_bytes.ensures.value in
    let passes : is_le (key_cmp c.key_bytes.result.now c.args.key.now) ≡ true =
    ap (λ bytes. is_le (key_cmp c.key_bytes.result.now bytes)) (sym same) ∙ ap is_le (sym c.byte_order.ensures)
    ∙ sym c.is_le.ensures ∙ c.if-is_le.true in
    let past = key_passes c.args.key.now c.key_bytes.result.now c.args.page.now.cells _
    c.key_bytes.ensures.valid.0.rising (omega arith) c.key_bytes.ensures.value passes in
    record { low = past; high = c.loop-low.invariant.high; within = c.loop-low.invariant.within }

pub loop-low-preserved : goal.loop-low-preserved
loop-low-preserved c =
    let same : c.as_slice-wanted.result.now ≡ c.args.key.now = c.as_slice-wanted.ensures ∙ c.as_bytes.ensures.value in
    let fails : is_le (key_cmp c.key_bytes.result.now c.args.key.now) ≡ false =
    ap (λ bytes. is_le (key_cmp c.key_bytes.result.now bytes)) (sym same) ∙ ap is_le (sym c.byte_order.ensures)
    ∙ sym c.is_le.ensures ∙ c.if-is_le.false in
    let stops = key_stops c.args.key.now c.key_bytes.result.now c.args.page.now.cells _
    (omega arith) c.key_bytes.ensures.value fails in
    record { low = c.loop-low.invariant.low; high = stops; within = omega arith }
