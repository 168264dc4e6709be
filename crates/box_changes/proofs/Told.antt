-- What is printed of attributes.
use Rattle.std.proofs.Common.{◌≡◌, ℕ, ◌+◌, List, [], ◌∷◌, ◌++◌, take, slice_get, Some, Result, Ok, Err, IfOk, IfErr}
use Rattle.std.proofs.Common.{sym}
use Rattle.std.proofs.Common.{ap, ◌∙◌, append_assoc}
use Rattle.std.specs.Global.{Vec}
use Rattle.std.proofs.lemmas.List.{append-nil, take_more}
use Rattle.std.proofs.lemmas.List.Concat.{flat_map-append}
use Rattle.std.proofs.lemmas.Option.{get_or_from_slice_get, slice_get_within}
use Rattle.store_model.specs.Commands.{AttributeSize}
use Rattle.box_calls.specs.declared.trouble.Trouble.{Trouble}
use Rattle.box_changes.specs.Telling.{name_line, name_lines, IsTroubleOf, IsText, told_of}

-- the line of one name more
pub name_more : (attributes : List AttributeSize) (i : ℕ) (a : AttributeSize) (text mid new : List ℕ)
    → slice_get attributes i ≡ Some a → text ≡ name_lines (take i attributes) → mid ≡ text ++ a.0
    → new ≡ mid ++ 10 ∷ [] → new ≡ name_lines (take (i + 1) attributes)
name_more attributes i a text mid new here before named ended =
    ended ∙ ap (λ (xs : List ℕ). xs ++ 10 ∷ []) (named ∙ ap (λ (xs : List ℕ). xs ++ a.0) before)
    ∙ append_assoc (name_lines (take i attributes)) a.0 (10 ∷ [])
    ∙ ap (λ (xs : List ℕ). name_lines (take i attributes) ++ xs) (sym (append-nil (name_line a)))
    ∙ sym (flat_map-append name_line (take i attributes) (a ∷ []))
    ∙ ap name_lines (sym (take_more attributes i a (slice_get_within attributes i a here)
    ∙ ap (λ (x : AttributeSize). take i attributes ++ x ∷ []) (get_or_from_slice_get attributes i a a here)))

pub text_is : (found : Result (Vec ℕ) Trouble) (meant : Result (List ℕ) Trouble)
    → IfOk found (λ text. meant ≡ Ok text.items) → IfErr found (IsTroubleOf meant) → IsText meant (told_of found)
text_is (Ok text) meant ok err = ok
text_is (Err trouble) meant ok err = err
