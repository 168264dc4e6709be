use Rattle.std.proofs.Common.{sym, ap, ◌∙◌}
use Rattle.store_base.specs.Leads.{model_lead}
use Rattle.std.proofs.lemmas.Result.{err_from_is_err_and}
use Rattle.skip_levels.proofs.NextLemmas.{no_path, no_neighbours, next_is_none, next_in_group, next_leads}
use Rattle.skip_levels.proofs.ValueLemmas.{some_from_test, none_from_test}
use Rattle.skip_levels.proofs.walk.Walk.find_next.Goals as goal

pub returns-in_err-go_to-clause-call : goal.returns-in_err-go_to-clause-call
returns-in_err-go_to-clause-call g c =
    let p = err_from_is_err_and c.from_residual.result c.from_residual.ensures.1 in
    rw (p.1, p.2) (no_path c.requires c.in_err-go_to.ensures.call)

pub returns-in_err-search_group-clause-call : goal.returns-in_err-search_group-clause-call
returns-in_err-search_group-clause-call g c =
    let p = err_from_is_err_and c.from_residual-in_err-search_group.result c.from_residual-in_err-search_group.ensures.1
    in
    rw (p.1, p.2) (no_neighbours c.requires c.in_ok-go_to.ensures.call (ap model_lead c.known_lead.ensures)
    c.in_err-search_group.ensures.call)

pub returns-then-is_some-clause-call : goal.returns-then-is_some-clause-call
returns-then-is_some-clause-call g c =
    let pair = some_from_test _ (sym c.is_some.ensures ∙ c.if-is_some.true) in
    next_in_group c.requires c.in_ok-go_to.ensures.call (ap model_lead c.known_lead.ensures)
    c.in_ok-search_group.ensures.call pair.1

pub returns-in-Some-clause-call : goal.returns-in-Some-clause-call
returns-in-Some-clause-call g c =
    next_leads c.requires c.in_ok-go_to.ensures.call (ap model_lead c.known_lead.ensures)
    c.in_ok-search_group.ensures.call (sym c.next_leader.ensures ∙ c.in-Some.is)
    (none_from_test _ (sym c.is_some.ensures ∙ c.if-is_some.false)) c.first_pair.ensures.call

pub returns-in-None-clause-call : goal.returns-in-None-clause-call
returns-in-None-clause-call g c =
    next_is_none c.requires c.in_ok-go_to.ensures.call (ap model_lead c.known_lead.ensures)
    c.in_ok-search_group.ensures.call (sym c.next_leader.ensures ∙ c.in-None.is)
    (none_from_test _ (sym c.is_some.ensures ∙ c.if-is_some.false))

-- what each call keeps of the state below
pub returns-in_err-search_group-clause-follows : goal.returns-in_err-search_group-clause-follows
returns-in_err-search_group-clause-follows g c =
    g.met.P.Pages.follows_trans _ _ _ c.in_ok-go_to.ensures.follows c.in_err-search_group.ensures.follows

pub returns-then-is_some-clause-follows : goal.returns-then-is_some-clause-follows
returns-then-is_some-clause-follows g c =
    g.met.P.Pages.follows_trans _ _ _ c.in_ok-go_to.ensures.follows c.in_ok-search_group.ensures.follows

pub returns-in-Some-clause-follows : goal.returns-in-Some-clause-follows
returns-in-Some-clause-follows g c =
    g.met.P.Pages.follows_trans _ _ _ c.in_ok-go_to.ensures.follows
    (g.met.P.Pages.follows_trans _ _ _ c.in_ok-search_group.ensures.follows c.first_pair.ensures.follows)

pub returns-in-None-clause-follows : goal.returns-in-None-clause-follows
returns-in-None-clause-follows g c =
    g.met.P.Pages.follows_trans _ _ _ c.in_ok-go_to.ensures.follows c.in_ok-search_group.ensures.follows
