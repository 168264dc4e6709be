use Rattle.std.proofs.Common.{◌∙◌, ap, ℕ, Option, Some, None, Ok, subst}
use Rattle.std.proofs.lemmas.Result.{err_from_is_err_and}
use Rattle.store_model.specs.Labels.{Label}
use Rattle.page_store.specs.Lookups.{Locates}
use Rattle.page_store.proofs.LayingLemmas.{lays_failed, lays_over, lays_in}
use Rattle.page_store.proofs.carry.lay_page.Goals as goal

pub overwrite-requires-clause-count : goal.overwrite-requires-clause-count
overwrite-requires-clause-count g c = rw c.in_ok-at.ensures.draw (c.in_ok-at.ensures.call.calls.count ∙ c.requires)

pub insert_from-requires-clause-count : goal.insert_from-requires-clause-count
insert_from-requires-clause-count g c =
    rw (c.keep.ensures.draw, c.start-start.ensures.draw, c.in_ok-at.ensures.draw)
    (c.in_ok-at.ensures.call.calls.count ∙ c.requires)

pub returns-in_err-at-clause-follows : goal.returns-in_err-at-clause-follows
returns-in_err-at-clause-follows g c = c.in_err-at.ensures.follows

pub returns-in-Some-clause-follows : goal.returns-in-Some-clause-follows
returns-in-Some-clause-follows g c =
    g.met.S.ReadSlots.follows_trans c.args.slots.now c.locate.new.slots c.overwrite.new.slots c.in_ok-at.ensures.follows
    c.overwrite.ensures.follows

pub returns-in-None-clause-follows : goal.returns-in-None-clause-follows
returns-in-None-clause-follows g c =
    g.met.S.ReadSlots.follows_trans c.args.slots.now c.locate.new.slots c.insert_from.new.slots
    c.in_ok-at.ensures.follows c.insert_from.ensures.follows

pub returns-in_err-at-clause-call : goal.returns-in_err-at-clause-call
returns-in_err-at-clause-call g c = let p = err_from_is_err_and c.from_residual.result c.from_residual.ensures.1
    in rw (p.1, p.2) (lays_failed _ _ _ c.args.page.now _ c.in_err-at.field-0.0 c.in_err-at.ensures.call)

pub returns-in-Some-clause-call : goal.returns-in-Some-clause-call
returns-in-Some-clause-call g c =
    let d = g.W.Draw.drawn c.args.finder.now.draw in
    let old = g.S.ReadSlots.state c.args.slots.now in
    let mid = g.S.ReadSlots.state c.locate.new.slots in
    let found = subst (λ (o : Option ℕ). Locates d old mid c.label-label.result (Ok o))
    c.in-Some.is c.in_ok-at.ensures.call in
    lays_over d old mid (g.S.ReadSlots.state c.overwrite.new.slots)
    c.args.page.now c.in-Some.at c.overwrite.result
    (subst (λ (l : Label). Locates d old mid l (Ok (Some c.in-Some.at))) c.label-label.ensures.value found)
    (rw c.in_ok-at.ensures.draw at c.overwrite.ensures.call)

pub returns-in-None-clause-call : goal.returns-in-None-clause-call
returns-in-None-clause-call g c =
    let d = g.W.Draw.drawn c.args.finder.now.draw in
    let old = g.S.ReadSlots.state c.args.slots.now in
    let mid = g.S.ReadSlots.state c.locate.new.slots in
    let found = subst (λ (o : Option ℕ). Locates d old mid c.label-label.result (Ok o))
    c.in-None.is c.in_ok-at.ensures.call in
    lays_in d old mid (g.S.ReadSlots.state c.insert_from.new.slots)
    c.args.page.now c.insert_from.result
    (subst (λ (l : Label). Locates d old mid l (Ok None)) c.label-label.ensures.value found)
    (rw (c.keep.ensures.draw, c.start-start.ensures.draw, c.in_ok-at.ensures.draw) at c.insert_from.ensures.call)

pub returns-in_err-at-clause-draw : goal.returns-in_err-at-clause-draw
returns-in_err-at-clause-draw g c = c.in_err-at.ensures.draw

pub returns-in-Some-clause-draw : goal.returns-in-Some-clause-draw
returns-in-Some-clause-draw g c = c.in_ok-at.ensures.draw

pub returns-in-None-clause-draw : goal.returns-in-None-clause-draw
returns-in-None-clause-draw g c = c.keep.ensures.draw ∙ c.start-start.ensures.draw ∙ c.in_ok-at.ensures.draw

pub insert_from-requires-clause-start : goal.insert_from-requires-clause-start
insert_from-requires-clause-start g c =
    rw (c.keep.ensures.draw, c.start-start.ensures.draw)
    (c.start-start.ensures.start ∙ ap (λ (l : Label). (g.W.Draw.drawn c.locate.new.finder.draw).start l)
    c.label-label.ensures.value)
