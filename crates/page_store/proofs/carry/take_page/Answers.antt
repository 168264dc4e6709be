use Rattle.std.proofs.Common.{◌∙◌, ℕ, Option, Ok, subst}
use Rattle.std.proofs.lemmas.Result.{err_from_is_err_and}
use Rattle.page_store.specs.Lookups.{Locates}
use Rattle.page_store.proofs.CarryLemmas.{none_taken, found_taken, failed_taken}
use Rattle.page_store.proofs.carry.take_page.Goals as goal

pub returns-in-None-clause-call : goal.returns-in-None-clause-call
returns-in-None-clause-call g c =
    let d = g.W.Draw.drawn c.args.finder.now.draw in
    let old = g.S.ReadSlots.state c.args.slots.now in
    let mid = g.S.ReadSlots.state c.locate.new.slots in
    none_taken d old mid c.args.label.now (subst (λ (o : Option ℕ). Locates d old mid c.args.label.now (Ok o))
    c.in-None.is c.in_ok-at.ensures.call)

pub remove-requires-clause-count : goal.remove-requires-clause-count
remove-requires-clause-count g c = rw c.in_ok-at.ensures.draw (c.in_ok-at.ensures.call.calls.count ∙ c.requires)

pub returns-in_err-at-clause-follows : goal.returns-in_err-at-clause-follows
returns-in_err-at-clause-follows g c = c.in_err-at.ensures.follows

pub returns-in-None-clause-follows : goal.returns-in-None-clause-follows
returns-in-None-clause-follows g c = c.in_ok-at.ensures.follows

pub returns-in-Some-clause-follows : goal.returns-in-Some-clause-follows
returns-in-Some-clause-follows g c =
    g.met.S.ReadSlots.follows_trans c.args.slots.now c.locate.new.slots c.remove.new.slots c.in_ok-at.ensures.follows
    c.remove.ensures.follows

pub returns-in_err-at-clause-call : goal.returns-in_err-at-clause-call
returns-in_err-at-clause-call g c = let p = err_from_is_err_and c.from_residual.result c.from_residual.ensures.1
    in rw (p.1, p.2) (failed_taken _ _ _ c.args.label.now c.in_err-at.field-0.0 c.in_err-at.ensures.call)

pub returns-in-Some-clause-call : goal.returns-in-Some-clause-call
returns-in-Some-clause-call g c =
    let d = g.W.Draw.drawn c.args.finder.now.draw in
    let old = g.S.ReadSlots.state c.args.slots.now in
    let mid = g.S.ReadSlots.state c.locate.new.slots in
    found_taken d old mid (g.S.ReadSlots.state c.remove.new.slots)
    c.args.label.now c.in-Some.at c.remove.result
    (subst (λ (o : Option ℕ). Locates d old mid c.args.label.now (Ok o)) c.in-Some.is c.in_ok-at.ensures.call)
    (rw c.in_ok-at.ensures.draw at c.remove.ensures.call)

pub returns-in_err-at-clause-draw : goal.returns-in_err-at-clause-draw
returns-in_err-at-clause-draw g c = c.in_err-at.ensures.draw

pub returns-in-None-clause-draw : goal.returns-in-None-clause-draw
returns-in-None-clause-draw g c = c.in_ok-at.ensures.draw

pub returns-in-Some-clause-draw : goal.returns-in-Some-clause-draw
returns-in-Some-clause-draw g c = c.in_ok-at.ensures.draw
