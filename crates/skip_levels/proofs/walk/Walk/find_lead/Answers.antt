use Rattle.std.proofs.Common.{refl, arith}
use Rattle.std.proofs.lemmas.Result.{err_from_is_err_and}
use Rattle.skip_levels.proofs.DescentSteps.{upper_fails, lower_fails, lead_found}
use Rattle.skip_levels.proofs.walk.Walk.find_lead.Goals as goal

pub returns-in_err-descend-clause-call : goal.returns-in_err-descend-clause-call
returns-in_err-descend-clause-call g c =
    let p = err_from_is_err_and c.from_residual-in_err-descend.result c.from_residual-in_err-descend.ensures.1 in
    rw (p.1, p.2) (upper_fails _ _ _ _ _ _ _ _ refl refl (omega arith) c.requires _ c.in_err-descend.ensures.call)

pub returns-in_err-descend-2-clause-call : goal.returns-in_err-descend-2-clause-call
returns-in_err-descend-2-clause-call g c =
    let p = err_from_is_err_and c.from_residual-in_err-descend-2.result c.from_residual-in_err-descend-2.ensures.1 in
    rw (p.1, p.2) (lower_fails _ _ _ _ _ _ _ _ refl refl (omega arith) c.requires _ _ c.in_ok-descend.ensures.call
    _ c.in_err-descend-2.ensures.call)

pub returns-clause-call : goal.returns-clause-call
returns-clause-call g c =
    lead_found _ _ _ _ _ _ _ _ refl refl (omega arith) c.requires _ _ c.in_ok-descend.ensures.call _
    c.in_ok-descend-2.ensures.call

-- what each call keeps of the state below
pub returns-in_err-descend-2-clause-follows : goal.returns-in_err-descend-2-clause-follows
returns-in_err-descend-2-clause-follows g c =
    g.met.P.Pages.follows_trans _ _ _ c.in_ok-descend.ensures.follows c.in_err-descend-2.ensures.follows

pub returns-clause-follows : goal.returns-clause-follows
returns-clause-follows g c =
    g.met.P.Pages.follows_trans _ _ _ c.in_ok-descend.ensures.follows c.in_ok-descend-2.ensures.follows
