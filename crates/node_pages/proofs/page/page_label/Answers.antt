use Rattle.std.proofs.Common.{◌≡◌, ℕ, ◌∷◌, List, true, length, take, drop, slice_index, sym, ap, subst, ◌∙◌}
use Rattle.std.proofs.Common.{arith}
use Rattle.std.proofs.lemmas.Bool.{false≢true}
use Rattle.store_model.specs.Labels.{Label, IsLabel, label_bytes}
use Rattle.store_model.specs.Lists.{IsBytes}
use Rattle.node_pages.specs.CellAreas.{SpellsCells}
use Rattle.node_pages.specs.PageSlots.{IsSlotOf}
use Rattle.node_pages.proofs.PageBytes.{shown, page_read, front_shown, front_read}
use Rattle.node_pages.proofs.page.page_label.Goals as goal

-- the slot is one of the label
slot_read : (label : Label) (slot area : List ℕ) (level : ℕ) → length slot ≡ 4096 → IsBytes slot → IsLabel label
    → take 131 slot ≡ 1 ∷ label_bytes label
    → level ≡ label.level → area ≡ drop 132 slot → SpellsCells level (slice_index slot 131) area → IsSlotOf label slot
slot_read label slot area level long fits valid front level_is area_is spells =
    let parts = front_read label slot valid front in
    page_read label slot long fits parts.0 valid
    parts.1 (subst (λ l. SpellsCells l (slice_index slot 131) (drop 132 slot)) level_is
    (subst (SpellsCells level (slice_index slot 131)) area_is spells))

pub returns-in_err-label-clause-only : goal.returns-in_err-label-clause-only
returns-in_err-label-clause-only c page is spells =
    let found = c.in_err-label.ensures.only page.label is.label (front_shown page c.args.slot.now is spells) in
    absurd cc

pub returns-then-not-are_whole-clause-only : goal.returns-then-not-are_whole-clause-only
returns-then-not-are_whole-clause-only c page is spells =
    let found = c.in_ok-label.ensures.only page.label is.label (front_shown page c.args.slot.now is spells) in
    let label_is : c.in_ok-label.label ≡ page.label = cc in
    let level_is : page.label.level ≡ c.label.inside.level =
    ap (λ (l : Label). l.level) (sym label_is ∙ sym c.label.view_is) in
    let shows = shown page c.args.slot.now is spells in
    let holds : c.are_whole.result ≡ true =
    c.are_whole.ensures.1 (subst (λ l. SpellsCells l (slice_index c.args.slot.now 131) c.split_at.result.1.now)
    level_is (subst (SpellsCells page.label.level (slice_index c.args.slot.now 131))
    (sym c.split_at.ensures.back) shows.cells)) in
    absurd (false≢true (sym c.if-not-are_whole.true ∙ holds))

pub returns-clause-found : goal.returns-clause-found
returns-clause-found c =
    slot_read c.in_ok-label.label c.args.slot.now c.split_at.result.1.now c.label.inside.level (omega arith) c.fits-slot
    c.in_ok-label.ensures.found.0 c.in_ok-label.ensures.found.1 (ap (λ (l : Label). l.level) c.label.view_is)
    c.split_at.ensures.back (c.are_whole.ensures.0 c.if-not-are_whole.false)

pub returns-clause-only : goal.returns-clause-only
returns-clause-only c page is spells =
    c.in_ok-label.ensures.only page.label is.label (front_shown page c.args.slot.now is spells)
