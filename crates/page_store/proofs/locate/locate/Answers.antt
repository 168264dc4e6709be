use Rattle.std.proofs.Common.{◌∙◌, ℕ, Option, Ok, subst}
use Rattle.std.proofs.lemmas.Result.{err_from_is_err_and}
use Rattle.page_store.specs.Lookups.{LocatesAgain}
use Rattle.page_store.proofs.LookupLemmas.{located_again, located_failed}
use Rattle.page_store.proofs.locate.locate.Goals as goal

pub locate_counted-requires-clause-count : goal.locate_counted-requires-clause-count
locate_counted-requires-clause-count g c =
    rw c.start-start.ensures.draw (c.in_ok-at.ensures.call.calls.count ∙ c.requires)

pub returns-in_err-at-clause-follows : goal.returns-in_err-at-clause-follows
returns-in_err-at-clause-follows g c = c.in_err-at.ensures.follows

pub returns-in-Some-clause-follows : goal.returns-in-Some-clause-follows
returns-in-Some-clause-follows g c = c.in_ok-at.ensures.follows

pub returns-in_err-found-clause-follows : goal.returns-in_err-found-clause-follows
returns-in_err-found-clause-follows g c =
    g.met.S.ReadSlots.follows_trans c.args.slots.now c.locate_again.new.slots c.locate_counted.new.slots
    c.in_ok-at.ensures.follows c.in_err-found.ensures.follows

pub returns-clause-follows : goal.returns-clause-follows
returns-clause-follows g c =
    g.met.S.ReadSlots.follows_trans c.args.slots.now c.locate_again.new.slots c.locate_counted.new.slots
    c.in_ok-at.ensures.follows c.in_ok-found.ensures.follows

pub returns-in_err-at-clause-call : goal.returns-in_err-at-clause-call
returns-in_err-at-clause-call g c = let p = err_from_is_err_and c.from_residual.result c.from_residual.ensures.1
    in rw (p.1, p.2) (located_failed _ _ _ _ c.in_err-at.field-0.0 c.in_err-at.ensures.call)

pub returns-in-Some-clause-call : goal.returns-in-Some-clause-call
returns-in-Some-clause-call g c =
    let d = g.W.Draw.drawn c.args.finder.now.draw in
    let old = g.S.ReadSlots.state c.args.slots.now in
    let mid = g.S.ReadSlots.state c.locate_again.new.slots in
    located_again d old mid c.args.label.now c.in-Some.at
    (subst (λ (o : Option ℕ). LocatesAgain d old mid c.args.label.now (Ok o)) c.in-Some.is c.in_ok-at.ensures.call)

pub returns-in_err-found-clause-draw : goal.returns-in_err-found-clause-draw
returns-in_err-found-clause-draw g c = c.start-start.ensures.draw

pub returns-clause-draw : goal.returns-clause-draw
returns-clause-draw g c = c.keep.ensures.draw ∙ c.start-start.ensures.draw

pub locate_counted-requires-clause-start : goal.locate_counted-requires-clause-start
locate_counted-requires-clause-start g c = rw c.start-start.ensures.draw c.start-start.ensures.start
