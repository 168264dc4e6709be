use Rattle.std.proofs.lemmas.Result.{err_from_is_err_and}
use Rattle.page_store.proofs.LookupLemmas.{again_untold, again_missed, again_failed}
use Rattle.page_store.proofs.locate.locate_again.Goals as goal

pub returns-then-at-slots-clause-call : goal.returns-then-at-slots-clause-call
returns-then-at-slots-clause-call g c = again_untold _ _ _

pub returns-then-at-slots-clause-follows : goal.returns-then-at-slots-clause-follows
returns-then-at-slots-clause-follows g c = g.met.S.ReadSlots.follows_refl c.args.slots.now

pub returns-in_err-holds-clause-call : goal.returns-in_err-holds-clause-call
returns-in_err-holds-clause-call g c =
    let p = err_from_is_err_and c.from_residual.result c.from_residual.ensures.1 in
    rw (p.1, p.2)
    (again_failed _ _ _ c.hint-at.result c.args.label.now c.in_err-holds.field-0.0 c.in_err-holds.ensures.call)

pub returns-in_err-holds-clause-follows : goal.returns-in_err-holds-clause-follows
returns-in_err-holds-clause-follows g c = c.in_err-holds.ensures.follows

pub returns-then-branch-clause-follows : goal.returns-then-branch-clause-follows
returns-then-branch-clause-follows g c = c.in_ok-holds.ensures.follows

pub returns-clause-call : goal.returns-clause-call
returns-clause-call g c =
    again_missed _ _ _ c.hint-at.result c.args.label.now c.in_ok-holds.field-0 c.in_ok-holds.ensures.call

pub returns-clause-follows : goal.returns-clause-follows
returns-clause-follows g c = c.in_ok-holds.ensures.follows
