-- Lemmas on the entries of a map that pass a test: the first of them, and the rest.
use Rattle.std.proofs.Common.{◌≡◌, suc, ◌≤◌, arith, ◌∷◌, List, [], length, Bool, true, false, cond, Some, refl, sym, ap}
use Rattle.std.proofs.Common.{ap₂, subst, ◌∙◌, Ordering, Less}
use Rattle.std.specs.List.{AllByRecursion, filter}
use Rattle.std.specs.List.Sorted.{IsStrictlySortedBy}
use Rattle.std.specs.Ordering.{eq_by_cmp}
use Rattle.std.specs.Cmp.{IsTotalOrder, tied_itself}
use Rattle.std.specs.Ordering.{is_eq, ordering_reverse}
use Rattle.std.specs.FinMap.{IsAntisymmetric, find}
use Rattle.store_model.proofs.ListsLemmas.{all_with, rising_head, rising_tail}
use Rattle.store_model.proofs.TreesLemmasPaths.{tie_from_test}

-- two tests that agree on each entry leave the same
pub filter_alike : {X : Type 0} (P Q : X → Bool) (es : List X) → AllByRecursion (λ e. P e ≡ Q e) es
    → filter P es ≡ filter Q es
filter_alike P Q [] h = refl
filter_alike P Q (e ∷ es) h = ap₂ (λ b rest. cond b (e ∷ rest) rest) h.0 (filter_alike P Q es h.1)

-- what no entry passes leaves none
pub filter_none : {X : Type 0} (P : X → Bool) (es : List X) → AllByRecursion (λ e. P e ≡ false) es → filter P es ≡ []
filter_none P [] h = refl
filter_none P (e ∷ es) h = ap (λ b. cond b (e ∷ filter P es) (filter P es)) h.0 ∙ filter_none P es h.1

-- and what all pass leaves all
pub filter_all : {X : Type 0} (P : X → Bool) (es : List X) → AllByRecursion (λ e. P e ≡ true) es → filter P es ≡ es
filter_all P [] h = refl
filter_all P (e ∷ es) h = ap (λ b. cond b (e ∷ filter P es) (filter P es)) h.0
    ∙ ap (λ rest. e ∷ rest) (filter_all P es h.1)

-- what is known of each key holds of one that is found
pub key_from_all : {K X : Type 0} (cmp : K → K → Ordering) → IsAntisymmetric cmp
    → (P : K → Type 0) (y : K) (x : X) (es : List (K × X)) → AllByRecursion (λ e. P e.0) es
    → find cmp y es ≡ Some x → P y
key_from_all cmp antisymm P y x [] h found = cc
key_from_all cmp antisymm P y x (e ∷ es) h found =
    (elim (eq_by_cmp cmp y e.0) as (λ b. eq_by_cmp cmp y e.0 ≡ b → cond b (Some e.1) (find cmp y es) ≡ Some x → P y) [
      | true ↦ λ same found. subst P (sym (antisymm y e.0 (tie_from_test (cmp y e.0) same))) h.0
      | false ↦ λ other found. key_from_all cmp antisymm P y x es h.1 found
    ]) refl found

-- an entry before which nothing passes a test, and behind which a second test passes the same
pub filter_first : {K X : Type 0} (cmp : K → K → Ordering) → IsAntisymmetric cmp
    → (P Q : K × X → Bool) (y : K) (x : X) (es : List (K × X)) → IsStrictlySortedBy (λ a b. cmp a.0 b.0) es
    → find cmp y es ≡ Some x → P (y, x) ≡ true → Q (y, x) ≡ false
    → AllByRecursion (λ e. cmp e.0 y ≡ Less → (P e ≡ false) × (Q e ≡ false)) es
    → AllByRecursion (λ e. cmp y e.0 ≡ Less → P e ≡ Q e) es → filter P es ≡ (y, x) ∷ filter Q es
filter_first cmp antisymm P Q y x [] rise found p q before behind = cc
filter_first {K} {X} cmp antisymm P Q y x (e ∷ es) rise found p q before behind =
    (elim (eq_by_cmp cmp y e.0) as (λ b. eq_by_cmp cmp y e.0 ≡ b → cond b (Some e.1) (find cmp y es) ≡ Some x
    → filter P (e ∷ es) ≡ (y, x) ∷ filter Q (e ∷ es)) [
      | true ↦ λ same found.
          let key : e.0 ≡ y = sym (antisymm y e.0 (tie_from_test (cmp y e.0) same)) in
          let value : e.1 ≡ x = cc in
          let is : e ≡ (y, x) = λ i. (key i, value i) in
          ap₂ (λ b rest. cond b (e ∷ rest) rest) (ap P is ∙ p)
          (filter_alike P Q es (all_with (λ f. cmp y f.0 ≡ Less → P f ≡ Q f) (λ f. cmp y f.0 ≡ Less) _
          (λ f g l. g l) es behind.1 (subst (λ (z : K). AllByRecursion (λ f. cmp z f.0 ≡ Less) es) key
          (rising_head _ e es rise))))
          ∙ ap₂ (λ f rest. f ∷ rest) is (sym (ap (λ b. cond b (e ∷ filter Q es) (filter Q es)) (ap Q is ∙ q)))
      | false ↦ λ other found.
          let less : cmp e.0 y ≡ Less = key_from_all cmp antisymm (λ z. cmp e.0 z ≡ Less) y x es
          (rising_head _ e es rise) found in
          let fails = before.0 less in
          ap (λ b. cond b (e ∷ filter P es) (filter P es)) fails.0
          ∙ filter_first cmp antisymm P Q y x es (rising_tail _ e es rise) found p q before.1 behind.1
          ∙ sym (ap (λ b. (y, x) ∷ cond b (e ∷ filter Q es) (filter Q es)) fails.1)
    ]) refl found

-- no more pass than there are
pub length-filter_le : {X : Type 0} (P : X → Bool) (es : List X) → length (filter P es) ≤ length es
length-filter_le P [] = omega arith
length-filter_le P (e ∷ es) = let rest = length-filter_le P es
    in elim (P e) as (λ b. length (cond b (e ∷ filter P es) (filter P es)) ≤ suc (length es))
    [ true ↦ omega arith | false ↦ omega arith ]

-- where keys rise, each entry is found by its key
pub found_itself : {K X : Type 0} (cmp : K → K → Ordering) → IsTotalOrder cmp → (es : List (K × X))
    → IsStrictlySortedBy (λ a b. cmp a.0 b.0) es → AllByRecursion (λ e. find cmp e.0 es ≡ Some e.1) es
found_itself cmp total [] rise = tt
found_itself {K} {X} cmp total (e ∷ es) rise = (
  ap (λ o. cond (is_eq o) (Some e.1) (find cmp e.0 es)) (tied_itself total e.0),
  all_with (λ f. cmp e.0 f.0 ≡ Less) (λ f. find cmp f.0 es ≡ Some f.1) (λ f. find cmp f.0 (e ∷ es) ≡ Some f.1)
      (λ f less there. ap (λ o. cond (is_eq o) (Some e.1) (find cmp f.0 es))
      (total.antisymm f.0 e.0 ∙ ap ordering_reverse less) ∙ there) es (rising_head _ e es rise)
      (found_itself cmp total es (rising_tail _ e es rise)),
)
