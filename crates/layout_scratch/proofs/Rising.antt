-- A list that is sorted by keys that differ rises by them.
use Rattle.std.proofs.Common.{◌≡◌, ◌+◌, List, [], ◌∷◌, get_or, false, refl, sym, ap, ◌∙◌, arith}
use Rattle.std.specs.declared.cmp.Ordering.{Ordering}
use Rattle.std.specs.declared.cmp.Ordering.TheVariants.{Less, Equal, Greater}
use Rattle.std.specs.Ordering.{is_lt, is_eq, eq_by_cmp, ordering_reverse}
use Rattle.std.specs.Cmp.{IsTotalOrder}
use Rattle.std.specs.List.{IsDistinct}
use Rattle.std.specs.List.Sorted.{IsSortedBy, IsStrictlySortedBy}
use Rattle.std.proofs.lemmas.Cmp.{on_total}
use Rattle.std.proofs.lemmas.Map.Keys.{apart_from_distinct, sorted_from_all_adjacent}
use Rattle.store_model.proofs.ListsLemmas.{rising_nil}

-- what is neither above the other, the other way round, nor equal to it is below it
below_from_others : (o : Ordering) → is_lt (ordering_reverse o) ≡ false → is_eq o ≡ false → o ≡ Less
below_from_others Less e f = refl
below_from_others Equal e f = cc
below_from_others Greater e f = cc

-- a list that is sorted by keys that differ rises by them
pub rising_from_sorted : {X K : Type 0} (c : K → K → Ordering) (key : X → K) (xs : List X) → IsTotalOrder c
    → IsSortedBy (λ a b. is_lt (c (key a) (key b))) xs → IsDistinct (eq_by_cmp (λ a b. c (key a) (key b))) xs
    → IsStrictlySortedBy (λ a b. c (key a) (key b)) xs
rising_from_sorted c key [] o up apart = rising_nil _
rising_from_sorted {X} c key (x ∷ xs) o up apart =
    let cmp : X → X → Ordering = λ a b. c (key a) (key b) in
    sorted_from_all_adjacent (on_total key o) (x ∷ xs) x (λ k l.
    let a = get_or (x ∷ xs) k x in
    let b = get_or (x ∷ xs) (k + 1) x in
    below_from_others (c (key a) (key b)) (ap is_lt (sym (o.antisymm (key b) (key a))) ∙ up k x (omega arith) l)
    (apart_from_distinct (eq_by_cmp cmp) (x ∷ xs) k (k + 1) x apart (omega arith) l))
