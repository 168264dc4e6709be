-- Lemmas on the last element of a list and those in front of it.
use Rattle.std.proofs.Common.{◌≡◌, List, [], ◌∷◌, ◌++◌, Some, None, refl, ap, sym, ◌∙◌}
use Rattle.rising_pages.specs.Ends.{all_but_last, last_of, list_of}

-- both together are the list
pub ends_whole : {A : Type 0} (xs : List A) → all_but_last xs ++ list_of (last_of xs) ≡ xs
unfolding all_but_last last_of
ends_whole [] = refl
ends_whole (x ∷ []) = refl
ends_whole (x ∷ y ∷ ys) = ap (λ zs. x ∷ zs) (ends_whole (y ∷ ys))

-- a list with no last element is empty
pub no_last : {A : Type 0} (xs : List A) → last_of xs ≡ None → xs ≡ []
unfolding last_of
no_last [] e = refl
no_last (x ∷ []) e = cc
no_last (x ∷ y ∷ ys) e = let empty = no_last (y ∷ ys) e in cc

-- a list with one is what stands in front of it, and it
pub with_last : {A : Type 0} (xs : List A) (x : A) → last_of xs ≡ Some x → xs ≡ all_but_last xs ++ x ∷ []
with_last xs x e = sym (ends_whole xs) ∙ ap (λ o. all_but_last xs ++ list_of o) e

pub last_of-push : {A : Type 0} (xs : List A) (x : A) → last_of (xs ++ x ∷ []) ≡ Some x
unfolding last_of
last_of-push [] x = refl
last_of-push (y ∷ []) x = refl
last_of-push (y ∷ z ∷ zs) x = last_of-push (z ∷ zs) x

pub all_but_last-push : {A : Type 0} (xs : List A) (x : A) → all_but_last (xs ++ x ∷ []) ≡ xs
unfolding all_but_last
all_but_last-push [] x = refl
all_but_last-push (y ∷ []) x = refl
all_but_last-push (y ∷ z ∷ zs) x = ap (λ us. y ∷ us) (all_but_last-push (z ∷ zs) x)
