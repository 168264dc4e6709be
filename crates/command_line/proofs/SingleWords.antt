-- What a word asks for by itself.
use Rattle.std.proofs.Common.{◌≡◌, ◌⊎◌, cond, List, [], ◌∷◌, Option, Some, None, ap, subst, inl, inr, ⊎_elim}
use Rattle.std.specs.Cmp.Lexicographic.{bytes_decides}
use Rattle.std.proofs.lemmas.Bool.{cases_Bool}
use Rattle.clap.specs.Walk.{Text}
use Rattle.store_model.specs.Lists.{same_bytes}
use Rattle.store_model.specs.Grammar.{on_word}
use Rattle.store_model.specs.Words.{Request}

-- what a word asks for that is one of these
abbrev pub asked_among : List (Text × Request) → Text → Option Request
asked_among [] word = None
asked_among (single ∷ words) word = on_word word single.0 (Some single.1) (asked_among words word)

-- where one of two words was found, it is the first, or the other was found
pub by_word : {A : Type 0} (word name : Text) (here other : Option A) (x : A) → on_word word name here other ≡ Some x
    → ((word ≡ name) × (here ≡ Some x)) ⊎ (other ≡ Some x)
by_word word name here other x e =
    ⊎_elim (λ yes. inl ((bytes_decides word name).0 yes, subst (λ b. cond b here other ≡ Some x) yes e))
    (λ no. inr (subst (λ b. cond b here other ≡ Some x) no e)) (cases_Bool (same_bytes word name))

pub nothing : {A B : Type 0} (x : A) → ◌≡◌ {A = Option A} None (Some x) → B
nothing x e = absurd (cc)

-- two lists that are equal begin so, and go on so
pub first_same : {A : Type 0} (x y : A) (xs ys : List A) → x ∷ xs ≡ y ∷ ys → x ≡ y
first_same x y xs ys e = ap (λ list. elim list [ [] ↦ x | first ∷ _ ↦ first ]) e

pub rest_same : {A : Type 0} (x y : A) (xs ys : List A) → x ∷ xs ≡ y ∷ ys → xs ≡ ys
rest_same x y xs ys e = ap (λ list. elim list [ [] ↦ xs | _ ∷ rest ↦ rest ]) e
