use Rattle.std.proofs.Common.{◌∙◌}
use Rattle.std.proofs.lemmas.Result.{err_from_is_err_and}
use Rattle.page_store.proofs.CarriedLemmas.{carried_out, carried_failed}
use Rattle.page_store.proofs.carry.lay_changes.Goals as goal

pub returns-clause-call : goal.returns-clause-call
returns-clause-call g c =
    carried_out _ (g.S.ReadSlots.state c.args.slots.now) (g.S.ReadSlots.state c.take_pages.new.slots)
    (g.S.ReadSlots.state c.lay_pages.new.slots)
    c.args.changes.now.pages.entries c.in_ok-take_pages.field-0 c.lay_pages.result
    c.in_ok-take_pages.ensures.ordered c.in_ok-take_pages.ensures.call
    (rw c.in_ok-take_pages.ensures.draw at c.lay_pages.ensures.call)

pub lay_pages-requires : goal.lay_pages-requires
lay_pages-requires g c = rw c.in_ok-take_pages.ensures.draw (c.in_ok-take_pages.ensures.call.calls.count ∙ c.requires)

pub returns-in_err-take_pages-clause-follows : goal.returns-in_err-take_pages-clause-follows
returns-in_err-take_pages-clause-follows g c = c.in_err-take_pages.ensures.follows

pub returns-clause-follows : goal.returns-clause-follows
returns-clause-follows g c =
    g.met.S.ReadSlots.follows_trans c.args.slots.now c.take_pages.new.slots c.lay_pages.new.slots
    c.in_ok-take_pages.ensures.follows c.lay_pages.ensures.follows

pub returns-in_err-take_pages-clause-call : goal.returns-in_err-take_pages-clause-call
returns-in_err-take_pages-clause-call g c = let p = err_from_is_err_and c.from_residual.result c.from_residual.ensures.1
    in rw (p.1, p.2) (carried_failed _ _ _ _ c.in_err-take_pages.field-0.0 c.in_err-take_pages.ensures.call)

pub returns-in_err-take_pages-clause-draw : goal.returns-in_err-take_pages-clause-draw
returns-in_err-take_pages-clause-draw g c = c.in_err-take_pages.ensures.draw

pub returns-clause-draw : goal.returns-clause-draw
returns-clause-draw g c = c.lay_pages.ensures.draw ∙ c.in_ok-take_pages.ensures.draw
