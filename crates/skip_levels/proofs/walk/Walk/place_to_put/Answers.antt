use Rattle.std.proofs.Common.{sym, ◌∙◌, arith}
use Rattle.std.proofs.lemmas.Result.{err_from_is_err_and}
use Rattle.skip_levels.proofs.PutSearches.{no_put_place, place_of_lead, place_of_own}
use Rattle.skip_levels.proofs.walk.Walk.place_to_put.Goals as goal

-- a lawful draw has the level
pub find_lead-requires : goal.find_lead-requires
find_lead-requires g c =
    let below = (g.met.W.Draw.lawful c.args.draw.now).level_in_range c.args.key.now in
    omega (arith, below, c.height.ensures, c.requires)

pub returns-in_err-lead-clause-call : goal.returns-in_err-lead-clause-call
returns-in_err-lead-clause-call g c =
    let p = err_from_is_err_and c.from_residual.result c.from_residual.ensures.1 in
    rw (p.1, p.2) (no_put_place c.height.ensures
    (omega (arith, (g.met.W.Draw.lawful c.args.draw.now).level_in_range c.args.key.now, c.height.ensures))
    c.in_err-lead.ensures.call)

pub returns-then-is_at_leader-clause-call : goal.returns-then-is_at_leader-clause-call
returns-then-is_at_leader-clause-call g c =
    place_of_lead c.height.ensures
    (omega (arith, (g.met.W.Draw.lawful c.args.draw.now).level_in_range c.args.key.now, c.height.ensures))
    c.requires c.in_ok-lead.ensures.call (sym c.is_at_leader.ensures ∙ c.if-is_at_leader.true)

pub returns-else-is_at_leader-clause-call : goal.returns-else-is_at_leader-clause-call
returns-else-is_at_leader-clause-call g c =
    place_of_own c.height.ensures
    (omega (arith, (g.met.W.Draw.lawful c.args.draw.now).level_in_range c.args.key.now, c.height.ensures))
    c.requires c.in_ok-lead.ensures.call (sym c.is_at_leader.ensures ∙ c.if-is_at_leader.false)
