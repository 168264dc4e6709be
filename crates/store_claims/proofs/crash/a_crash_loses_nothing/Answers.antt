use Rattle.std.proofs.Common.{take, sym, subst}
use Rattle.store_model.specs.Images.{Represents}
use Rattle.store_model.specs.Scripts.{lines}
use Rattle.disk_model.specs.DiskState.{MayLeaveOnly}
use Rattle.disk_model.specs.Memory.{Memory, memory_state}
use Rattle.script_runs.specs.Runs.{run_texts, run_trees}
use Rattle.script_runs.proofs.AnswerLemmas.{length-run_texts}
use Rattle.store_claims.specs.declared.crash.Crash.{Crash}
use Rattle.store_claims.specs.Crashes.{LosesNothing}
use Rattle.store_claims.specs.Machines.{bytes_of}
use Rattle.store_claims.proofs.AcknowledgedLemmas.{script_keeps_acknowledged}
use Rattle.store_claims.proofs.CrashLemmas.{script_loses_nothing}
use Rattle.store_claims.proofs.OneWord.{asks_run}
use Rattle.store_claims.proofs.RunWays.{layout_after}
use Rattle.store_claims.proofs.crash.a_crash_loses_nothing.Goals as goal

pub returns-clause-next : goal.returns-clause-next
returns-clause-next c t p only =
    let below = c.new-failing.ensures.inner in
    let script = c.args.source.left in
    let crash : Crash = record { first = c.top-first.result; next = c.in_ok-next.next } in
    subst (λ (disk : Memory). LosesNothing (run_texts t script p) (run_trees t script p) p disk c.args.sink
    c.args.left.now crash) below
    (script_loses_nothing {texts_of = run_texts} {trees_of = run_trees} (λ status ends. ends)
    t p c.new-failing.result c.args.source c.args.sink c.args.left.now crash
    (c.top-first.ensures.performs _ (c.in_ok-words.ensures _ asks_run))
    (subst (λ (disk : Memory). MayLeaveOnly (memory_state disk) (λ image. Represents image t p)) (sym below) only)
    (λ is k. layout_after t p (bytes_of c.new-failing.result) (take k (lines script)) is)
    (λ u is. c.in_ok-next.ensures u p is))

pub returns-clause-first : goal.returns-clause-first
returns-clause-first c t p only =
    script_keeps_acknowledged {texts = run_texts} {trees = run_trees} (λ status ends. ends)
    t p c.new-failing.result c.args.source c.args.sink c.top-first.result (length-run_texts t c.args.source.left p)
    (c.top-first.ensures.performs _ (c.in_ok-words.ensures _ asks_run))
    (subst (λ (disk : Memory). MayLeaveOnly (memory_state disk) (λ image. Represents image t p))
    (sym c.new-failing.ensures.inner) only)
