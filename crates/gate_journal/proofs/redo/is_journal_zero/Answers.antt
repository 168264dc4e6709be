use Rattle.std.proofs.Common.{arith}
use Rattle.gate_journal.proofs.Reading.{ReadsOnly-trans}
use Rattle.gate_journal.proofs.Faults.{if_ok_fault}
use Rattle.gate_journal.proofs.Calls.{AreCalls-one, AreCalls-then, AreCalls-fault, AreCalls-answered}
use Rattle.gate_journal.proofs.Calls.{observable_after}
use Rattle.gate_journal.proofs.Areas.{marks_end, shadow_end}
use Rattle.gate_journal.proofs.redo.is_journal_zero.Goals as goal

pub overflow_sub-len : goal.overflow_sub-len
overflow_sub-len g c =
    omega (arith, c.table_at.ensures.value, c.gate_at.ensures, marks_end c.args.slots, shadow_end c.args.slots)

pub returns-in_err-is_range_zero-clause-calls : goal.returns-in_err-is_range_zero-clause-calls
returns-in_err-is_range_zero-clause-calls g c =
    AreCalls-fault _ _ _ c.from_residual.result c.from_residual.ensures.0
    (AreCalls-then _ _ _ _ _ c.loop-part.invariant.calls (AreCalls-one _ _ _ c.in_err-is_range_zero.ensures.call))

pub returns-in_err-is_range_zero-clause-reads : goal.returns-in_err-is_range_zero-clause-reads
returns-in_err-is_range_zero-clause-reads g c observable =
    let observable_mid = observable_after _ _ _ c.loop-part.invariant.calls observable in
    ReadsOnly-trans _ _ _ (c.loop-part.invariant.reads observable) (c.is_range_zero.ensures.reads observable_mid)

pub returns-in_err-is_range_zero-clause-value : goal.returns-in_err-is_range_zero-clause-value
returns-in_err-is_range_zero-clause-value g c observable =
    if_ok_fault c.from_residual.result _ c.from_residual.ensures.0

pub returns-then-not-branch-clause-calls : goal.returns-then-not-branch-clause-calls
returns-then-not-branch-clause-calls g c =
    AreCalls-answered _ _ _ _
    (AreCalls-then _ _ _ _ _ c.loop-part.invariant.calls (AreCalls-one _ _ _ c.in_ok-is_range_zero.ensures.call))

pub returns-then-not-branch-clause-reads : goal.returns-then-not-branch-clause-reads
returns-then-not-branch-clause-reads g c observable =
    let observable_mid = observable_after _ _ _ c.loop-part.invariant.calls observable in
    ReadsOnly-trans _ _ _ (c.loop-part.invariant.reads observable) (c.is_range_zero.ensures.reads observable_mid)

pub returns-clause-calls : goal.returns-clause-calls
returns-clause-calls g c = AreCalls-answered _ _ _ _ c.loop-part.invariant.calls

pub returns-clause-reads : goal.returns-clause-reads
returns-clause-reads g c = c.loop-part.invariant.reads
