use Rattle.skip_levels.specs.declared.walk.Walk.{Walk}
use Rattle.std.proofs.Common.{sym, ap, subst, arith}
use Rattle.std.proofs.lemmas.Result.{err_from_is_err_and}
use Rattle.skip_levels.specs.Descent.{IsKnownGroup}
use Rattle.skip_levels.specs.PagePairs.{pairs_of_map}
use Rattle.ordered_pairs.specs.PairsState.{without}
use Rattle.skip_levels.proofs.PairCalls.{not_found, none_to_take, pair_taken, pair_not_taken, known_still}
use Rattle.skip_levels.proofs.walk.Walk.take_pair.Goals.{then-top-gt0, else-top-gt0}
use Rattle.skip_levels.proofs.walk.Walk.take_pair.Goals as goal

pub returns-in_err-lead-clause-call : goal.returns-in_err-lead-clause-call
returns-in_err-lead-clause-call g c =
    let p = err_from_is_err_and c.from_residual.result c.from_residual.ensures.1 in
    rw (p.1, p.2) (not_found _ _ _ _ _ _ c.requires.whole c.requires.known _ _ c.height.ensures
    c.level_from-top.ensures _ c.in_err-lead.ensures.call)

pub returns-in_default-clause-call : goal.returns-in_default-clause-call
returns-in_default-clause-call g c =
    none_to_take _ _ _ _ _ _ c.requires.whole c.requires.known _ _ c.height.ensures c.level_from-top.ensures _
    c.in_ok-lead.ensures.call c.in_default.is

pub returns-in_err-take_from-clause-call : goal.returns-in_err-take_from-clause-call
returns-in_err-take_from-clause-call g c =
    let p = err_from_is_err_and c.from_residual-in_err-take_from.result c.from_residual-in_err-take_from.ensures.1 in
    rw (p.1, p.2) (pair_not_taken _ _ _ _ _ _ c.requires.whole c.requires.known _ _ c.height.ensures
    c.level_from-top.ensures _ c.in_ok-lead.ensures.call _ _ c.in-Some.value c.in-Some.is
    c.in_err-take_from.ensures.call)

pub returns-clause-call : goal.returns-clause-call
returns-clause-call g c =
    pair_taken _ _ _ _ _ _ c.requires.whole c.requires.known _ _ c.height.ensures c.level_from-top.ensures _
    c.in_ok-lead.ensures.call _ tt c.in-Some.value _ c.in-Some.is c.in_ok-take_from.ensures.call
    (λ o.
    let known = IsKnownGroup (g.W.Draw.drawn c.args.draw.now)
    (without c.args.key.now (pairs_of_map (g.P.Pages.state c.args.pages.now).pages)) in
    elim c.if-top-gt0.branch [
      | then-top-gt0 w ↦ subst known (sym (ap (λ (walk : Walk). walk.known) w.self-is)) tt
      | else-top-gt0 w ↦ subst known (sym (ap (λ (walk : Walk). walk.known) w.self-is))
          (known_still _ _ _ _ _ _ c.requires.whole c.requires.known _ _ c.height.ensures c.level_from-top.ensures _
          c.in_ok-lead.ensures.call c.in-Some.value c.in-Some.is (omega (arith, w.if-top-gt0.false)) o)
    ])

-- what each call keeps of the state below
pub returns-in_err-take_from-clause-follows : goal.returns-in_err-take_from-clause-follows
returns-in_err-take_from-clause-follows g c =
    g.met.P.Pages.follows_trans _ _ _ c.in_ok-lead.ensures.follows c.in_err-take_from.ensures.follows

pub returns-clause-follows : goal.returns-clause-follows
returns-clause-follows g c =
    g.met.P.Pages.follows_trans _ _ _ c.in_ok-lead.ensures.follows c.in_ok-take_from.ensures.follows
