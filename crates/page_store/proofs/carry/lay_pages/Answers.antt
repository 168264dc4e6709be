use Rattle.std.proofs.Common.{refl, ◌≡◌, List, Option, Some, sym, ap, subst, ◌∙◌}
use Rattle.std.proofs.lemmas.Result.{err_from_is_err_and}
use Rattle.std.specs.BTreeMap.{values}
use Rattle.store_model.specs.Pages.{Page}
use Rattle.page_store.proofs.LayingLemmas.{LayingPages}
use Rattle.page_store.proofs.LayingLemmas.{laying_begins, laying_passes, laying_lays, laying_fails, laying_ends}
use Rattle.page_store.proofs.carry.lay_pages.Goals as goal

pub loop-change-init : goal.loop-change-init
loop-change-init g c =
    let d = g.W.Draw.drawn c.args.finder.now.draw in
    let slots = g.S.ReadSlots.state c.args.slots.now in
    let all = values c.args.changes.now.pages in
    let start : c.into_iter-change-iterator.result ≡ all =
    c.into_iter-change-iterator.ensures.into_iter_gives ∙ c.values-change-items.ensures.rest in (
      subst (λ (pages : List (Option Page)). LayingPages d slots slots all pages) (sym start)
          (laying_begins d slots all),
      g.met.S.ReadSlots.follows_refl c.args.slots.now,
      refl,
    )

pub loop-change-preserved : goal.loop-change-preserved
loop-change-preserved g c = (
  laying_passes _ _ _ _ _ _ c.in-Some.change.now c.in-Some.ensures.steps c.loop-change.invariant.0 c.in_default.is,
  c.loop-change.invariant.1,
  c.loop-change.invariant.2,
)

pub loop-change-preserved-in-Continue-1 : goal.loop-change-preserved-in-Continue-1
loop-change-preserved-in-Continue-1 g c = (
  laying_lays _ _ _ _ _ _ c.in-Some.change.now c.in-Some.ensures.steps c.loop-change.invariant.0
      (g.S.ReadSlots.state c.lay_page.new.slots) c.get.result.now (c.in-Some-change.is ∙ ap Some (sym c.get.ensures))
      (rw c.loop-change.invariant.2 at c.in_ok-lay_page.ensures.call),
  g.met.S.ReadSlots.follows_trans c.args.slots.now c.loop-change.slots c.lay_page.new.slots c.loop-change.invariant.1
      c.in_ok-lay_page.ensures.follows,
  c.in_ok-lay_page.ensures.draw ∙ c.loop-change.invariant.2,
)

pub returns-in_err-lay_page-clause-follows : goal.returns-in_err-lay_page-clause-follows
returns-in_err-lay_page-clause-follows g c =
    g.met.S.ReadSlots.follows_trans c.args.slots.now c.loop-change.slots c.lay_page.new.slots c.loop-change.invariant.1
    c.in_err-lay_page.ensures.follows

pub lay_page-requires : goal.lay_page-requires
lay_page-requires g c = rw c.loop-change.invariant.2 (c.loop-change.invariant.0.calls.count ∙ c.requires)

pub returns-in_err-lay_page-clause-call : goal.returns-in_err-lay_page-clause-call
returns-in_err-lay_page-clause-call g c = let p = err_from_is_err_and c.from_residual.result c.from_residual.ensures.1
    in rw (p.1, p.2) (laying_fails _ _ _ _ _ _ _
    c.in_err-lay_page.field-0.0 c.loop-change.invariant.0
    (rw c.loop-change.invariant.2 at c.in_err-lay_page.ensures.call))

pub returns-clause-call : goal.returns-clause-call
returns-clause-call g c = laying_ends _ _ _ _ _ c.in-None.ensures.steps.0 c.loop-change.invariant.0

pub returns-clause-follows : goal.returns-clause-follows
returns-clause-follows g c = c.loop-change.invariant.1

pub returns-in_err-lay_page-clause-draw : goal.returns-in_err-lay_page-clause-draw
returns-in_err-lay_page-clause-draw g c = c.in_err-lay_page.ensures.draw ∙ c.loop-change.invariant.2

pub returns-clause-draw : goal.returns-clause-draw
returns-clause-draw g c = c.loop-change.invariant.2
