use Rattle.store_claims.proofs.Costing.{scrub_costs}
use Rattle.store_claims.proofs.Imaging.{scrub_exact}
use Rattle.store_claims.proofs.images.scrub.Goals as goal

pub returns-clause-exact : goal.returns-clause-exact
returns-clause-exact c is = scrub_exact c.args.machine c.call.result (c.call.ensures.performs _ is)

pub returns-clause-costs : goal.returns-clause-costs
returns-clause-costs c t p is = scrub_costs c.args.machine c.call.result (c.call.ensures.performs _ is) t p
