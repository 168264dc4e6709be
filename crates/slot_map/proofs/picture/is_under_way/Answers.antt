use Rattle.std.proofs.Common.{◌≡◌, ℕ, not, ◌==◌, ◌||◌, ap, ◌∙◌, sym, rules}
use Rattle.std.specs.List.{list_any}
use Rattle.std.proofs.lemmas.Iterator.{YieldsList-from_slice}
use Rattle.std.proofs.lemmas.Iterator.Search.{any_from_yields_List}
use Rattle.slot_map.proofs.picture.is_under_way.Goals as goal

pub returns-else-flag-ne0 : goal.returns-else-flag-ne0
returns-else-flag-ne0 c =
    let marks = c.args.marks.now in
    let found : c.any.result ≡ list_any (λ (mark : ℕ). not (mark == 0)) marks =
    any_from_yields_List (λ (mark : ℕ). not (mark == 0)) _ _
    c.any.result c.any.ensures.ran (YieldsList-from_slice marks (search rules)) (λ x b q called. search rules) in
    found ∙ ap (λ (flag : ℕ). not (flag == 0) || list_any (λ (mark : ℕ). not (mark == 0)) marks)
    (sym c.if-flag-ne0.false)
