use Rattle.store_claims.proofs.Checking.{check_exact, check_agrees, answers_by_one_tree, left_alone}
use Rattle.store_claims.proofs.checks.check_then_run.Goals as goal

pub returns-clause-agrees : goal.returns-clause-agrees
returns-clause-agrees c is asked =
    check_agrees c.args.machine c.call-checked.result c.args.replies c.call-answered.result
    (c.call-checked.ensures.performs _ is) (c.call-answered.ensures.performs _ asked)

pub returns-clause-answers : goal.returns-clause-answers
returns-clause-answers c is asked =
    answers_by_one_tree c.args.machine c.call-checked.result c.args.replies c.call-answered.result
    (c.call-checked.ensures.performs _ is) (c.call-answered.ensures.performs _ asked)

pub returns-clause-alone : goal.returns-clause-alone
returns-clause-alone c is asked =
    left_alone c.args.machine c.call-checked.result c.args.replies c.call-answered.result
    (c.call-checked.ensures.performs _ is) (c.call-answered.ensures.performs _ asked)

pub returns-clause-judges : goal.returns-clause-judges
returns-clause-judges c is =
    check_exact c.args.machine c.call-checked.result (c.call-checked.ensures.performs _ is)
