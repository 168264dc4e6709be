use Rattle.store_claims.proofs.Checking.{check_exact}
use Rattle.store_claims.proofs.checks.check.Goals as goal

pub returns : goal.returns
returns c is = check_exact c.args.machine c.call.result (c.call.ensures.performs _ is)
