-- Words of a call on two images.
use Rattle.std.proofs.Common.{◌≡◌, ◌↔◌, ◌∙◌, IsTrue, List, [], ◌∷◌, length, Option, Some, None, sym, ap, codes}
use Rattle.std.proofs.Common.{arith}
use Rattle.std.specs.Option.{option_copied, option_eq}
use Rattle.std.specs.List.{slice_get}
use Rattle.std.specs.Borrow.{Bor}
use Rattle.std.specs.Cmp.Lexicographic.{bytes_decides}
use Rattle.clap.specs.Walk.{Text}
use Rattle.store_model.specs.Lists.{same_bytes}
use Rattle.command_line.specs.Requests.{AskMirror}
use Rattle.command_line.proofs.LineLemmas.{some_same}

-- whether there is a text, and it is that one
abbrev is_text : Option (Bor Text) → Bor Text → Type 0
is_text found name = IsTrue (option_eq (λ (one other : Bor Text). same_bytes one.now other.now) found (Some name))

-- two words ask for a mirror where the first of them is `mirror`
pub asks_pair : (words : List Text) (found : Option (Bor Text)) (name : Bor Text) → name.now ≡ codes "mirror"
    → option_copied found ≡ slice_get words 0 → length words ≡ 2
    → is_text found name ↔ AskMirror words
asks_pair [] found name named read two = absurd (omega (arith, two))
asks_pair (a ∷ []) found name named read two = absurd (omega (arith, two))
asks_pair (a ∷ b ∷ []) None name named read two = absurd (cc)
asks_pair (a ∷ b ∷ []) (Some first) name named read two =
    let same : first.now ≡ a = some_same _ _ read in (
      λ h. record {
        other = b;
        words_are = ap (λ w. w ∷ b ∷ []) (sym same ∙ (bytes_decides first.now name.now).0 h ∙ named);
      },
      λ asks. (bytes_decides first.now name.now).1 (same
          ∙ ap (λ (words : List Text). elim words as (λ _. Text) [ [] ↦ [] | w ∷ _ ↦ w ]) asks.words_are ∙ sym named),
    )
asks_pair (a ∷ b ∷ c ∷ rest) found name named read two = absurd (omega (arith, two))
