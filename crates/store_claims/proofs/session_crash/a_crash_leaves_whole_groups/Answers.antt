use Rattle.std.proofs.Common.{sym, subst}
use Rattle.store_model.specs.Images.{Represents}
use Rattle.disk_model.specs.DiskState.{MayLeaveOnly}
use Rattle.disk_model.specs.Memory.{Memory, memory_state}
use Rattle.script_runs.specs.SessionRuns.{session_texts}
use Rattle.script_runs.proofs.AnswerLemmas.{length-session_texts}
use Rattle.store_claims.specs.declared.crash.Crash.{Crash}
use Rattle.store_claims.specs.Crashes.{LosesNothing}
use Rattle.store_claims.specs.Machines.{bytes_of}
use Rattle.store_claims.proofs.RunWays.{ends_as_run}
use Rattle.store_claims.proofs.AcknowledgedLemmas.{script_keeps_acknowledged}
use Rattle.store_claims.proofs.CrashLemmas.{script_loses_nothing}
use Rattle.store_claims.specs.Groups.{committed_trees}
use Rattle.store_claims.proofs.TreeLemmas.{committed_laid_out}
use Rattle.store_claims.proofs.session_crash.a_crash_leaves_whole_groups.Goals as goal

pub returns-clause-first : goal.returns-clause-first
returns-clause-first c t p only =
    script_keeps_acknowledged ends_as_run t p c.new-failing.result c.args.source c.args.sink c.in_ok-first.first
    (length-session_texts t c.args.source.left p) c.in_ok-first.ensures
    (subst (λ (disk : Memory). MayLeaveOnly (memory_state disk) (λ image. Represents image t p))
    (sym c.new-failing.ensures.inner) only)

pub returns-clause-next : goal.returns-clause-next
returns-clause-next c t p only =
    let below = c.new-failing.ensures.inner in
    let leaves = subst (λ (disk : Memory). MayLeaveOnly (memory_state disk) (λ image. Represents image t p))
    (sym below) only in
    let script = c.args.source.left in
    let crash : Crash = record { first = c.in_ok-first.first; next = c.in_ok-next.next } in
    subst (λ (disk : Memory). LosesNothing (session_texts t script p) (committed_trees t script p) p disk c.args.sink
    c.args.left.now crash) below
    (script_loses_nothing ends_as_run t p c.new-failing.result c.args.source c.args.sink c.args.left.now crash
    c.in_ok-first.ensures leaves
    (committed_laid_out t p (bytes_of c.new-failing.result) c.args.source.left)
    (λ u is. c.in_ok-next.ensures u p is))
