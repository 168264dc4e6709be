use Rattle.std.proofs.Common.{List, ℕ, refl, subst}
use Rattle.std.specs.List.{concat}
use Rattle.std.proofs.Math.Seq.{take-length}
use Rattle.std.proofs.lemmas.Result.{IfOk-weaker}
use Rattle.store_model.specs.Scripts.{lines}
use Rattle.script_runs.specs.SessionRuns.{session_texts}
use Rattle.script_runs.proofs.AnswerLemmas.{length-session_texts}
use Rattle.store_claims.specs.Answered.{AnswersWhole}
use Rattle.store_claims.proofs.AcknowledgedLemmas.{script_keeps_acknowledged}
use Rattle.store_claims.proofs.AnsweredLemmas.{script_answered}
use Rattle.store_claims.proofs.NothingLemmas.{works_on_nothing}
use Rattle.store_claims.proofs.RunWays.{ends_as_run}
use Rattle.store_claims.specs.Groups.{committed_tree}
use Rattle.store_claims.proofs.session_answered.a_session_is_answered.Goals as goal

pub returns-clause-answered : goal.returns-clause-answered
returns-clause-answered c t p is =
    let script = c.args.source.left in
    IfOk-weaker c.hold.result _ _
    (λ after answers.
    subst (λ (texts : List (List ℕ)). AnswersWhole (concat (session_texts t script p))
    (committed_tree t texts p) p c.args.disk c.args.source c.args.sink after) (take-length (lines script))
    (script_answered t p c.args.disk c.args.source c.args.sink after (length-session_texts t script p) answers is))
    c.hold.ensures

pub returns-clause-acknowledged : goal.returns-clause-acknowledged
returns-clause-acknowledged c t p only =
    IfOk-weaker c.hold.result _ _
    (λ after answers. script_keeps_acknowledged ends_as_run t p c.args.disk c.args.source c.args.sink after
    (length-session_texts t c.args.source.left p) answers only) c.hold.ensures

pub returns-clause-costs : goal.returns-clause-costs
returns-clause-costs c t p is = IfOk-weaker c.hold.result _ _
    (λ after answers. ((answers.observed refl).does t p is refl).carried.counts) c.hold.ensures

pub returns-clause-nothing : goal.returns-clause-nothing
returns-clause-nothing c none = IfOk-weaker c.hold.result _ _
    (λ after answers. works_on_nothing c.args.disk c.args.source c.args.sink after answers none) c.hold.ensures
