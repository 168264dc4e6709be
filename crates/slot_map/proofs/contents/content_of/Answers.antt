use Rattle.std.proofs.Common.{◌≡◌, sym, ap, ◌∙◌, arith}
use Rattle.std.proofs.lemmas.Bool.{false≢true}
use Rattle.std.proofs.lemmas.Option.{same_Some, none-some}
use Rattle.store_model.specs.Pages.{Page}
use Rattle.store_model.specs.Images.{slot_bytes}
use Rattle.slot_map.proofs.contents.content_of.Goals as goal

pub returns-in-Some : goal.returns-in-Some
unfolding slot_bytes
returns-in-Some c = record {
  page = c.in-Some.page;
  is_page = c.in-Some.ensures.found.0;
  level_is = sym c.level-in-Some.ensures;
  below = omega (arith, c.level.ensures, c.level-in-Some.ensures, c.if-level-lt-MAX_HEIGHT.true);
  bytes = sym c.in-Some.ensures.found.1;
}

pub returns-in_default : goal.returns-in_default
unfolding slot_bytes
returns-in_default c = (
  λ zero. absurd (false≢true (sym c.if-is_zero.false ∙ c.is_zero.ensures.1 zero)),
  λ level holds.
      let same = same_Some c.in-Some.page holds.page (sym c.in-Some.is
      ∙ c.decode_page.ensures.only holds.page holds.is_page (sym holds.bytes)) in
      let is : c.level.result ≡ holds.page.label.level = c.level.ensures ∙ ap (λ (p : Page). p.label.level) same in
      absurd (omega (arith, is, holds.level_is, holds.below, c.if-level-lt-MAX_HEIGHT.false)),
)

pub returns-in_default-2 : goal.returns-in_default-2
unfolding slot_bytes
returns-in_default-2 c = (
  λ zero. absurd (false≢true (sym c.if-is_zero.false ∙ c.is_zero.ensures.1 zero)),
  λ level holds.
      absurd (none-some holds.page (sym c.in_default.is
      ∙ c.decode_page.ensures.only holds.page holds.is_page (sym holds.bytes))),
)
