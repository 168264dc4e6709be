use Rattle.std.proofs.Common.{refl}
use Rattle.script_runs.specs.Runs.{run_texts, run_trees}
use Rattle.script_runs.proofs.AnswerLemmas.{length-run_texts}
use Rattle.store_claims.proofs.AcknowledgedLemmas.{script_keeps_acknowledged}
use Rattle.store_claims.proofs.AnsweredLemmas.{answers_script}
use Rattle.store_claims.proofs.NothingLemmas.{works_on_nothing}
use Rattle.store_claims.proofs.OneWord.{asks_run}
use Rattle.store_claims.proofs.RefusalLemmas.{untouched, answers_full}
use Rattle.store_claims.proofs.answered.a_script_is_answered.Goals as goal

pub returns-clause-answered : goal.returns-clause-answered
returns-clause-answered c t p =
    answers_script t p c.args.disk c.args.source c.args.sink c.top.result
    (c.top.ensures.performs _ (c.in_ok-words.ensures _ asks_run))

pub returns-clause-acknowledged : goal.returns-clause-acknowledged
returns-clause-acknowledged c t p =
    script_keeps_acknowledged {texts = run_texts} {trees = run_trees} (λ status ends. ends)
    t p c.args.disk c.args.source c.args.sink c.top.result (length-run_texts t c.args.source.left p)
    (c.top.ensures.performs _ (c.in_ok-words.ensures _ asks_run))

pub returns-clause-costs : goal.returns-clause-costs
returns-clause-costs c t p is =
    (((c.top.ensures.performs _ (c.in_ok-words.ensures _ asks_run)).observed refl).does t p is refl).carried.counts

pub returns-clause-untouched : goal.returns-clause-untouched
returns-clause-untouched c t p =
    untouched t p c.args.disk c.args.source c.args.sink c.top.result
    (c.top.ensures.performs _ (c.in_ok-words.ensures _ asks_run))

pub returns-clause-full : goal.returns-clause-full
returns-clause-full c command t p is one =
    answers_full command t p c.args.disk c.args.source c.args.sink c.top.result is one
    (answers_script t p c.args.disk c.args.source c.args.sink c.top.result
    (c.top.ensures.performs _ (c.in_ok-words.ensures _ asks_run)) is)

pub returns-clause-nothing : goal.returns-clause-nothing
returns-clause-nothing c =
    works_on_nothing c.args.disk c.args.source c.args.sink c.top.result
    (c.top.ensures.performs _ (c.in_ok-words.ensures _ asks_run))
