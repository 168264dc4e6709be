use Rattle.std.proofs.Common.{ap, arith}
use Rattle.store_base.specs.Leads.{model_lead}
use Rattle.std.proofs.lemmas.Result.{err_from_is_err_and}
use Rattle.skip_levels.proofs.ValueLemmas.{no_lead, no_value, place_found}
use Rattle.skip_levels.proofs.walk.Walk.find_place.Goals as goal

pub returns-in_err-lead-clause-call : goal.returns-in_err-lead-clause-call
returns-in_err-lead-clause-call g c =
    let p = err_from_is_err_and c.from_residual.result c.from_residual.ensures.1 in
    rw (p.1, p.2) (no_lead (omega arith) c.in_err-lead.ensures.call)

pub returns-in_err-search_group-clause-call : goal.returns-in_err-search_group-clause-call
returns-in_err-search_group-clause-call g c =
    let p = err_from_is_err_and c.from_residual-in_err-search_group.result c.from_residual-in_err-search_group.ensures.1
    in
    rw (p.1, p.2) (no_value (omega arith) c.in_ok-lead.ensures.call (ap model_lead c.known_lead.ensures)
    c.in_err-search_group.ensures.call)

pub returns-clause-call : goal.returns-clause-call
returns-clause-call g c =
    place_found (omega arith) c.in_ok-lead.ensures.call (ap model_lead c.known_lead.ensures)
    c.in_ok-search_group.ensures.call

-- what each call keeps of the state below
pub returns-in_err-search_group-clause-follows : goal.returns-in_err-search_group-clause-follows
returns-in_err-search_group-clause-follows g c =
    g.met.P.Pages.follows_trans _ _ _ c.in_ok-lead.ensures.follows c.in_err-search_group.ensures.follows

pub returns-clause-follows : goal.returns-clause-follows
returns-clause-follows g c =
    g.met.P.Pages.follows_trans _ _ _ c.in_ok-lead.ensures.follows c.in_ok-search_group.ensures.follows
