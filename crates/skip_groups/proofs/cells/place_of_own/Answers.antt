use Rattle.std.proofs.Common.{◌≡◌, Equal, sym, ap, subst, ◌∙◌, arith}
use Rattle.std.specs.Ordering.{is_eq}
use Rattle.store_model.specs.Paths.{key_cmp}
use Rattle.store_model.specs.Pages.{Cell}
use Rattle.store_model.proofs.TreesLemmasPaths.{tie_from_test}
use Rattle.skip_groups.specs.GroupCells.{AreBetween}
use Rattle.skip_groups.proofs.Insertions.{is_place, one_cell}
use Rattle.skip_groups.proofs.cells.place_of_own.Goals as goal

pub returns : goal.returns
returns c =
    let level = c.args.level in
    let key = c.args.key.now in
    let page = c.args.page.now in
    let cell = c.index-own-0.result in
    let same : page.label.level ≡ level = omega (arith, c.if-level.false, c.level.ensures) in
    let tie : key_cmp cell.key key ≡ Equal =
    tie_from_test _ (ap is_eq (sym (c.cmp.ensures.value ∙ ap (λ (x : Cell). key_cmp x.key key) c.cell.view_is))
    ∙ sym c.is_eq.ensures ∙ c.if-not-is_eq.false) in
    let here : c.places_of-at.result.1 ≡ c.places_of-at.result.0 = omega (arith, c.if-at-past.false) in
    is_place level key page cell c.places_of-at.result.0 c.reveal.ensures.valid same
    (c.is_last.ensures.0 c.if-not-is_last.false) (c.is_of.ensures.0 c.if-not-is_of.false) tie
    (subst (AreBetween key page.cells c.places_of-at.result.0) here c.places_of-at.ensures.between)
    c.args.own.now (one_cell c.args.own.now cell (omega (arith, c.if-own-ne1.false)) c.index-own-0.is)
