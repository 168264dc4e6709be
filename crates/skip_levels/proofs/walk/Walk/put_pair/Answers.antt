use Rattle.std.proofs.Common.{refl, sym, ap, ◌∙◌, arith}
use Rattle.std.proofs.lemmas.Result.{err_from_is_err_and}
use Rattle.store_base.specs.Leads.{model_lead}
use Rattle.skip_levels.proofs.PairCalls.{no_place_to_put, may_put, pair_not_put, pair_put, lowest_put}
use Rattle.skip_levels.proofs.PutSearches.{no_put_place, place_of_lowest}
use Rattle.skip_levels.proofs.walk.Walk.put_pair.Goals as goal

-- a lawful draw has a level
pub go_to-requires : goal.go_to-requires
go_to-requires g c =
    omega (arith, (g.met.W.Draw.lawful c.args.draw.now).level_in_range c.args.key.now, c.height.ensures)

pub returns-in_err-go_to-clause-call : goal.returns-in_err-go_to-clause-call
returns-in_err-go_to-clause-call g c =
    let p = err_from_is_err_and c.from_residual.result c.from_residual.ensures.1 in
    rw (p.1, p.2) (no_place_to_put _ _ _ _ _ _ c.requires.whole c.requires.known _ _ (no_put_place c.height.ensures
    (omega (arith, (g.met.W.Draw.lawful c.args.draw.now).level_in_range c.args.key.now, c.height.ensures))
    c.in_err-go_to.ensures.call))

pub put_lowest-requires : goal.put_lowest-requires
put_lowest-requires g c =
    may_put _ _ _ _ _ _ c.requires.whole c.requires.known c.args.value _ (place_of_lowest c.height.ensures
    (omega (arith, (g.met.W.Draw.lawful c.args.draw.now).level_in_range c.args.key.now, c.height.ensures))
    (sym c.if-own-eq0.true ∙ c.level_from-own.ensures) c.in_ok-go_to.ensures.call refl
    (ap model_lead c.known_lead.ensures)) c.requires.room

pub returns-then-own-eq0-clause-call : goal.returns-then-own-eq0-clause-call
returns-then-own-eq0-clause-call g c =
    lowest_put _ _ _ _ _ _ c.requires.whole c.requires.known _ _ (place_of_lowest c.height.ensures
    (omega (arith, (g.met.W.Draw.lawful c.args.draw.now).level_in_range c.args.key.now, c.height.ensures))
    (sym c.if-own-eq0.true ∙ c.level_from-own.ensures) c.in_ok-go_to.ensures.call refl
    (ap model_lead c.known_lead.ensures)) c.requires.room _ c.reveal_pair.ensures.key c.reveal_pair.ensures.value _
    refl c.put_lowest.ensures.call

pub returns-in_err-top-clause-call : goal.returns-in_err-top-clause-call
returns-in_err-top-clause-call g c =
    let p = err_from_is_err_and c.from_residual-in_err-top.result c.from_residual-in_err-top.ensures.1 in
    rw (p.1, p.2) (no_place_to_put _ _ _ _ _ _ c.requires.whole c.requires.known _ _ c.in_err-top.ensures.call)

pub put_from-requires : goal.put_from-requires
put_from-requires g c =
    may_put _ _ _ _ _ _ c.requires.whole c.requires.known c.args.value _ c.in_ok-top.ensures.call c.requires.room

pub returns-in_err-put_from-clause-call : goal.returns-in_err-put_from-clause-call
returns-in_err-put_from-clause-call g c =
    let p = err_from_is_err_and c.from_residual-in_err-put_from.result c.from_residual-in_err-put_from.ensures.1 in
    rw (p.1, p.2) (pair_not_put _ _ _ _ _ _ c.requires.whole c.requires.known _ _ c.in_ok-top.ensures.call
    c.requires.room _ _ c.in_err-put_from.ensures.call)

pub returns-clause-call : goal.returns-clause-call
returns-clause-call g c =
    rw c.remember_put.ensures (pair_put _ _ _ _ _ _ c.requires.whole c.requires.known _ _ c.in_ok-top.ensures.call
    c.requires.room _ tt c.reveal_pair.ensures.key c.reveal_pair.ensures.value c.in_ok-put_from.ensures.call)

-- what each call keeps of the state below
pub returns-then-own-eq0-clause-follows : goal.returns-then-own-eq0-clause-follows
returns-then-own-eq0-clause-follows g c =
    g.met.P.Pages.follows_trans _ _ _ c.in_ok-go_to.ensures.follows c.put_lowest.ensures.follows

pub returns-in_err-put_from-clause-follows : goal.returns-in_err-put_from-clause-follows
returns-in_err-put_from-clause-follows g c =
    g.met.P.Pages.follows_trans _ _ _ c.in_ok-top.ensures.follows c.in_err-put_from.ensures.follows

pub returns-clause-follows : goal.returns-clause-follows
returns-clause-follows g c =
    g.met.P.Pages.follows_trans _ _ _ c.in_ok-top.ensures.follows c.in_ok-put_from.ensures.follows
