use Rattle.std.proofs.Common.{refl, ◌≡◌, sym, subst, ◌∙◌}
use Rattle.std.proofs.lemmas.Result.{err_from_is_err_and}
use Rattle.table_memory.specs.Staging.{StagedPages}
use Rattle.page_store.proofs.CarryLemmas.{TakingPages}
use Rattle.page_store.proofs.CarryLemmas.{some_of, none_of, taking_begins, taking_passes, taking_takes, taking_fails}
use Rattle.page_store.proofs.CarryLemmas.{taking_ends}
use Rattle.page_store.proofs.carry.take_pages.Goals as goal

pub loop-label-init : goal.loop-label-init
loop-label-init g c =
    let d = g.W.Draw.drawn c.args.finder.now.draw in
    let slots = g.S.ReadSlots.state c.args.slots.now in
    let all = c.args.changes.now.pages.entries in
    let start : c.into_iter-label-iterator.result ≡ all = c.into_iter-label-iterator.ensures.into_iter_gives.0 in (
      subst (λ (es : StagedPages). TakingPages d slots slots all es) (sym start)
          (taking_begins d slots all),
      g.met.S.ReadSlots.follows_refl c.args.slots.now,
      refl,
    )

pub loop-label-preserved : goal.loop-label-preserved
loop-label-preserved g c =
    let some = some_of c.in-Some.change.now c.if-is_none.ensures in (
      taking_passes _ _ _ _ _ _ c.in-Some.label.now c.in-Some.change.now c.in-Some.ensures.steps
          c.loop-label.invariant.0
          some.0 some.1,
      c.loop-label.invariant.1,
      c.loop-label.invariant.2,
    )

pub loop-label-preserved-in-Continue-1 : goal.loop-label-preserved-in-Continue-1
loop-label-preserved-in-Continue-1 g c = (
  taking_takes _ _ _ _ _ _ c.in-Some.label.now c.in-Some.change.now c.in-Some.ensures.steps c.loop-label.invariant.0
      (g.S.ReadSlots.state c.take_page.new.slots) (none_of c.in-Some.change.now c.if-is_none.ensures)
      (rw c.loop-label.invariant.2 at c.in_ok-take_page.ensures.call),
  g.met.S.ReadSlots.follows_trans c.args.slots.now c.loop-label.slots c.take_page.new.slots c.loop-label.invariant.1
      c.in_ok-take_page.ensures.follows,
  c.in_ok-take_page.ensures.draw ∙ c.loop-label.invariant.2,
)

pub take_page-requires : goal.take_page-requires
take_page-requires g c = rw c.loop-label.invariant.2 (c.loop-label.invariant.0.calls.count ∙ c.requires)

pub returns-in_err-take_page-clause-call : goal.returns-in_err-take_page-clause-call
returns-in_err-take_page-clause-call g c = let p = err_from_is_err_and c.from_residual.result c.from_residual.ensures.1
    in rw (p.1, p.2) (taking_fails _ _ _ _ _ _ c.in-Some.label.now c.in_err-take_page.field-0.0 c.loop-label.invariant.0
    (rw c.loop-label.invariant.2 at c.in_err-take_page.ensures.call))

pub returns-in_err-take_page-clause-follows : goal.returns-in_err-take_page-clause-follows
returns-in_err-take_page-clause-follows g c =
    g.met.S.ReadSlots.follows_trans c.args.slots.now c.loop-label.slots c.take_page.new.slots c.loop-label.invariant.1
    c.in_err-take_page.ensures.follows

pub returns-clause-call : goal.returns-clause-call
returns-clause-call g c = taking_ends _ _ _ _ _ c.in-None.ensures.steps.0 c.loop-label.invariant.0

pub returns-clause-follows : goal.returns-clause-follows
returns-clause-follows g c = c.loop-label.invariant.1

pub returns-in_err-take_page-clause-draw : goal.returns-in_err-take_page-clause-draw
returns-in_err-take_page-clause-draw g c = c.in_err-take_page.ensures.draw ∙ c.loop-label.invariant.2

pub returns-clause-draw : goal.returns-clause-draw
returns-clause-draw g c = c.loop-label.invariant.2
