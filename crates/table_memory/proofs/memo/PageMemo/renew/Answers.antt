use Rattle.std.proofs.Common.{◌∙◌}
use Rattle.table_memory.proofs.MapLemmas.{none_left}
use Rattle.table_memory.proofs.MemoLemmas.{renewing_begins, renewing_keeps, renewing_ends}
use Rattle.table_memory.proofs.memo.PageMemo.renew.Goals as goal

pub loop-label-init : goal.loop-label-init
loop-label-init c = renewing_begins c.args.self.now c.args.changes.now.entries

pub loop-label-preserved : goal.loop-label-preserved
loop-label-preserved c = renewing_keeps _ _ c.keep.new.self _ _ c.pop_first.new.self.entries _
    c.in-Some.ensures.removal c.in-Some.ensures.all_above c.loop-label.invariant c.keep.ensures

pub returns-clause-renews : goal.returns-clause-renews
returns-clause-renews c = renewing_ends _ _ _ _
    (none_left c.loop-label.changes.entries c.in_default.ensures.variant.1) c.loop-label.invariant

pub returns-clause-emptied : goal.returns-clause-emptied
returns-clause-emptied c = c.in_default.ensures.unchanged
    ∙ none_left c.loop-label.changes.entries c.in_default.ensures.variant.1
