use Rattle.std.proofs.Common.{◌≡◌, ℕ, List, Some, None, refl, sym, ap, ◌∙◌, subst, arith}
use Rattle.std.proofs.lemmas.List.{ext_get_or}
use Rattle.std.proofs.lemmas.Option.{none-some, same_Some}
use Rattle.store_model.specs.Parameters.{Parameters}
use Rattle.store_model.specs.Pages.{Page}
use Rattle.store_model.proofs.TreesLemmasBytes.{viewed_headers_same, slots_same}
use Rattle.slot_map.specs.declared.contents.Content.{Content}
use Rattle.slot_map.specs.declared.contents.Content.TheVariants as contents
use Rattle.slot_map.specs.Contents.{Holds, ShowsSlot, ShowsTable, character}
use Rattle.slot_map.specs.Pictures.{map_text}
use Rattle.slot_map.proofs.laws.an_image_has_one_picture.Goals as goal

-- a slot has one content
same_content : (slot : List ℕ) (a b : Content) → Holds slot a → Holds slot b → a ≡ b
same_content slot contents.Free contents.Free one other = refl
same_content slot contents.Free (contents.Page level) one other =
    absurd (none-some other.page (slots_same None (Some other.page) tt other.is_page (sym one ∙ other.bytes)))
same_content slot contents.Free contents.Other one other = absurd (other.0 one)
same_content slot (contents.Page level) contents.Free one other =
    absurd (none-some one.page (slots_same None (Some one.page) tt one.is_page (sym other ∙ one.bytes)))
same_content slot (contents.Page level) (contents.Page m) one other =
    let same = same_Some one.page other.page
    (slots_same (Some one.page) (Some other.page) one.is_page other.is_page (sym one.bytes ∙ other.bytes)) in
    ap contents.Page (sym one.level_is ∙ ap (λ (page : Page). page.label.level) same ∙ other.level_is)
same_content slot (contents.Page level) contents.Other one other = absurd (other.1 level one)
same_content slot contents.Other contents.Free one other = absurd (one.0 other)
same_content slot contents.Other (contents.Page level) one other = absurd (one.1 level other)
same_content slot contents.Other contents.Other one other = refl

-- and one character
same_character : (slot : List ℕ) (a b : ℕ) → ShowsSlot slot a → ShowsSlot slot b → a ≡ b
same_character slot a b one other = one.char_is
    ∙ ap character (same_content slot one.content other.content one.holds other.holds) ∙ sym other.char_is

same_characters : (slots : ℕ) (image a b : List ℕ) → ShowsTable slots image a → ShowsTable slots image b → a ≡ b
same_characters slots image a b one other =
    ext_get_or 0 a b (one.length_is ∙ sym other.length_is)
    (λ i low. same_character _ _ _ (one.shown i (omega (arith, one.length_is)))
    (other.shown i (omega (arith, one.length_is))))

pub returns : goal.returns
returns c image one other first second =
    let p = first.params in
    let q = second.params in
    let same : p ≡ q = viewed_headers_same image p q
    first.is_image.names.in_range second.is_image.names.in_range first.is_image.names.header_is
    second.is_image.names.header_is in
    let chars = same_characters q.slots image
    first.chars second.chars (subst (λ (r : Parameters). ShowsTable r.slots image first.chars) same first.table)
    second.table in
    first.text_is ∙ ap (λ (r : Parameters). map_text r first.chars image) same
    ∙ ap (λ (xs : List ℕ). map_text q xs image) chars ∙ sym second.text_is
