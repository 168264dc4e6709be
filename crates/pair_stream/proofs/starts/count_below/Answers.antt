use Rattle.std.proofs.Common.{sym, ap, ◌∙◌, arith}
use Rattle.std.specs.Ordering.{is_lt}
use Rattle.pair_stream.proofs.StartGroups.{one_more_below, key_not_below}
use Rattle.pair_stream.proofs.starts.count_below.Goals as goal

pub loop-at-preserved : goal.loop-at-preserved
loop-at-preserved c =
    one_more_below c.args.key.now c.key.result c.args.page.now.cells c.loop-at.at (omega (
      arith,
      c.len-all.ensures.value,
    ))
    c.key.ensures.value (ap is_lt (sym c.cmp.ensures.value) ∙ sym c.is_lt.ensures ∙ c.if-not-is_lt.false)
    c.loop-at.invariant

pub returns-then-not-is_lt : goal.returns-then-not-is_lt
returns-then-not-is_lt c =
    record {
      within = omega (arith, c.len-all.ensures.value);
      each = c.loop-at.invariant;
      next = key_not_below c.args.key.now c.key.result c.args.page.now.cells c.loop-at.at
          (omega (arith, c.len-all.ensures.value)) c.key.ensures.value
          (ap is_lt (sym c.cmp.ensures.value) ∙ sym c.is_lt.ensures ∙ c.if-not-is_lt.true);
    }
