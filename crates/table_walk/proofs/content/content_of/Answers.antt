use Rattle.std.proofs.Common.{◌≡◌, ◌<◌, ℕ, List, Option, Some, None, refl, sym, ap, ◌∙◌, arith}
use Rattle.std.proofs.lemmas.Bool.{false≢true}
use Rattle.std.proofs.lemmas.Option.{same_Some}
use Rattle.store_model.specs.Labels.{Label}
use Rattle.store_model.specs.Pages.{Page, IsPage}
use Rattle.store_model.specs.Images.{page_bytes, slot_bytes}
use Rattle.node_pages.specs.PageSlots.{page_in}
use Rattle.table_walk.specs.Contents.{MayStand}
use Rattle.table_walk.proofs.content.content_of.Goals as goal
use Rattle.table_walk.proofs.content.content_of.Goals.{in_default-via-in-Some+else-label-height}
use Rattle.table_walk.proofs.content.content_of.Goals.{in_default-via-in_default}

-- nothing that may stand in a slot has its bytes, where they are not zero and it is no page below the height that
-- they spell
nothing_stands : (slot : List ℕ) (height : ℕ) → (slot ≡ slot_bytes None → ⊥)
    → ((page : Page) → IsPage page → page_bytes page ≡ slot → page.label.level < height → ⊥)
    → (what : Option Page) → MayStand height what → slot ≡ slot_bytes what → ⊥
unfolding slot_bytes
nothing_stands slot height not_zero no_page None stands bytes = not_zero bytes
nothing_stands slot height not_zero no_page (Some page) stands bytes = no_page page stands.0 (sym bytes) stands.1

pub returns-in-Some : goal.returns-in-Some
unfolding slot_bytes
returns-in-Some c =
    let found = c.in-Some.ensures.found in
    let level : c.label.inside.level ≡ c.in-Some.label.level = ap (λ (l : Label). l.level) c.label.view_is in
    record {
      page = page_in c.in-Some.label c.args.slot.now;
      stands = (found.page, omega (arith, level, c.if-label-height.true));
      bytes = sym found.bytes;
      label_is = refl;
    }

pub returns-in_default : goal.returns-in_default
returns-in_default c =
    nothing_stands c.args.slot.now c.args.height
    (λ zero. absurd (false≢true (sym c.if-is_zero.false ∙ c.is_zero.ensures.1 zero)))
    (elim c.in_default.branch [
      | in_default-via-in-Some+else-label-height w ↦ λ page is spells below.
          let same = same_Some w.in-Some.label page.label
          (sym w.in-Some.is ∙ c.page_label.ensures.only page is spells) in
          let level : w.label.inside.level ≡ page.label.level = ap (λ (l : Label). l.level) (w.label.view_is ∙ same) in
          absurd (omega (arith, level, below, w.if-label-height.false))
      | in_default-via-in_default w ↦ λ page is spells below.
          w.in_default.not-Some page.label (c.page_label.ensures.only page is spells)
    ])
