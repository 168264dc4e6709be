use Rattle.std.proofs.Common.{List, ℕ, sym, ap, ◌∙◌, subst}
use Rattle.std.proofs.lemmas.Result.{IfOk-weaker}
use Rattle.store_model.specs.Images.{Represents}
use Rattle.store_base.specs.Counts.{raised_by}
use Rattle.disk_model.specs.Memory.{Memory}
use Rattle.script_lines.specs.Memory.{SinkMemory}
use Rattle.store_claims.specs.Answered.{AnswersScript}
use Rattle.store_claims.specs.Crashes.{RunsBehind}
use Rattle.store_claims.specs.Machines.{Ended}
use Rattle.store_claims.proofs.CrashLemmas.{runs_behind}
use Rattle.store_claims.proofs.crash.run_behind.Goals as goal

pub returns : goal.returns
returns c t p is =
    let bytes = ap (λ (memory : Memory). memory.bytes) (c.calm-disk.ensures.below ∙ c.in_ok-new.ensures) in
    IfOk-weaker c.a_script_is_answered.result
    (AnswersScript t p c.calm-disk.result c.no_script.result c.in_ok-sink.sink) (RunsBehind t p)
    (λ (next : Ended). runs_behind t p c.calm-disk.result c.no_script.result c.in_ok-sink.sink next
    c.no_script.ensures.left
    (c.calm-disk.ensures.faults ∙ ap (λ (memory : Memory). raised_by memory.faults 0) c.in_ok-new.ensures)
    c.no_script.ensures.faults
    (ap (λ (sink : SinkMemory). sink.faults) c.in_ok-sink.ensures))
    (c.a_script_is_answered.ensures.answered t p (subst (λ (image : List ℕ). Represents image t p) (sym bytes) is))
