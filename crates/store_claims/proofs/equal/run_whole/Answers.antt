use Rattle.std.proofs.Common.{◌≡◌, sym, ap, subst}
use Rattle.std.proofs.lemmas.Result.{IfOk-weaker, IfErr-weaker}
use Rattle.store_model.specs.Scripts.{lines, tree_after}
use Rattle.script_lines.specs.Memory.{SourceMemory}
use Rattle.store_claims.specs.Machines.{Ended, HasImage}
use Rattle.store_claims.specs.Makings.{SparesCounts, StopsRuns}
use Rattle.store_claims.proofs.AnsweredLemmas.{answers_script}
use Rattle.store_claims.proofs.MakingLemmas.{represented}
use Rattle.store_claims.proofs.OneWord.{asks_run}
use Rattle.store_claims.proofs.StoppingLemmas.{spares_counts, run_stops, unrun_stops}
use Rattle.store_claims.proofs.equal.run_whole.Goals as goal

pub returns-in-Ok-clause-image : goal.returns-in-Ok-clause-image
returns-in-Ok-clause-image c t p is image =
    IfOk-weaker c.done.result _ _
    (λ after ok.
    subst (λ (ended : Ended). HasImage ended.disk (tree_after t (lines c.args.source.left) p) p) (sym ok.0)
    ((answers_script t p c.args.disk c.args.source c.args.sink c.top.result
    (c.top.ensures.performs _ (c.in-Ok.ensures _ asks_run))
    (represented c.args.disk t p is image)).image ok.1))
    c.done.ensures.ok

pub returns-in-Ok-clause-spares : goal.returns-in-Ok-clause-spares
returns-in-Ok-clause-spares c =
    IfOk-weaker c.done.result _ _
    (λ after ok. subst (SparesCounts c.args.disk c.args.sink) (sym ok.0)
    (spares_counts c.args.disk c.args.source c.args.sink c.top.result c.top.ensures.outside ok.1))
    c.done.ensures.ok

pub returns-in-Ok-clause-stops : goal.returns-in-Ok-clause-stops
returns-in-Ok-clause-stops c t p is image =
    IfErr-weaker c.done.result _ _
    (λ after other.
    subst (StopsRuns c.args.disk (λ (script : SourceMemory). script ≡ c.args.source) c.args.sink) (sym other.0)
    (run_stops c.args.disk c.args.source c.args.sink c.top.result c.top.ensures.outside t p
    (c.top.ensures.performs _ (c.in-Ok.ensures _ asks_run)) (represented c.args.disk t p is image) other.1))
    c.done.ensures.ended

pub returns-in-Err-clause-stops : goal.returns-in-Err-clause-stops
returns-in-Err-clause-stops c t p is image =
    unrun_stops c.args.disk (λ (script : SourceMemory). script ≡ c.args.source)
    c.args.sink c.idle.result (ap (λ (ended : Ended). ended.status) c.idle.ensures)
