use Rattle.std.proofs.Common.{refl, arith}
use Rattle.std.proofs.lemmas.Result.{err_from_is_err_and}
use Rattle.skip_levels.proofs.DescentSteps.{upper_fails, low_found, lead_is_known}
use Rattle.skip_levels.proofs.walk.Walk.go_to.Goals as goal

pub returns-then-knows-clause-call : goal.returns-then-knows-clause-call
returns-then-knows-clause-call g c = lead_is_known _ _ 0 _ _ refl (c.knows.ensures.0 c.if-knows.true)

pub returns-in_err-descend-clause-call : goal.returns-in_err-descend-clause-call
returns-in_err-descend-clause-call g c =
    let p = err_from_is_err_and c.from_residual.result c.from_residual.ensures.1 in
    rw (p.1, p.2) (upper_fails _ _ _ _ _ 0 _ _ refl refl (omega arith) c.requires _ c.in_err-descend.ensures.call)

pub returns-clause-call : goal.returns-clause-call
returns-clause-call g c =
    low_found _ _ _ _ _ 0 _ _ refl refl (omega arith) c.requires _ refl c.in_ok-descend.ensures.call
