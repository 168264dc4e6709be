-- What a binary search among items finds that rise by key.
use Rattle.std.proofs.Common.{◌≡◌, ℕ, zero, suc, ◌+◌, ◌<◌, List, [], ◌∷◌, map, length, get_or, false, cond, Some, None}
use Rattle.std.proofs.Common.{Result, Ok, Err, refl, sym, ap, subst, ◌∙◌, arith, Ordering, Less, Equal, Greater}
use Rattle.std.specs.Ordering.{is_eq, is_lt, ordering_reverse}
use Rattle.std.specs.Cmp.{IsTotalOrder, tied_back, alike_right}
use Rattle.std.specs.FinMap.{find}
use Rattle.std.specs.List.{AllByRecursion, AllWithin}
use Rattle.std.specs.List.Sorted.{IsStrictlySortedBy, IsSortedBy, IsBinarySearchResult, IsSearchInRange}
use Rattle.std.proofs.lemmas.List.Sorted.{searchable_from_sorted}
use Rattle.store_model.proofs.ListsLemmas.{rising_from_is_sorted, rising_head, rising_tail}
use Rattle.std.proofs.lemmas.Cmp.{then_total, on_total}
use Rattle.store_model.proofs.PathsLemmasPlaces.{name_cmp_total}
use Rattle.store_model.proofs.TreesLemmasPaths.{path_cmp_total}
use Rattle.dump_diff.specs.Scripts.{IsFound, AttributePlace, attribute_cmp}

module _ {K V X : Type 0} {R : K → K → Ordering} (o : IsTotalOrder R) (key : X → K) (value : X → V) where
  abbrev entry : X → K × V
  entry x = (key x, value x)

  abbrev Below : K × V → K × V → Ordering
  Below a b = R a.0 b.0

  turned : (x y : K) (r : Ordering) → R x y ≡ r → R y x ≡ ordering_reverse r
  turned x y r e = o.antisymm y x ∙ ap ordering_reverse e

  -- the key of the item at a place, which is behind another one
  at_place : (k : K) (xs : List X) (i : ℕ) (d : X) → AllByRecursion (λ (e : K × V). R k e.0 ≡ Less) (map entry xs)
      → i < length xs → R k (key (get_or xs i d)) ≡ Less
  at_place k [] i d h below = absurd (omega arith)
  at_place k (x ∷ xs) zero d h below = h.0
  at_place k (x ∷ xs) (suc i) d h below = at_place k xs i d h.1 (omega arith)

  found_at : (xs : List X) (q : K) (i : ℕ) (d : X) → IsStrictlySortedBy Below (map entry xs) → i < length xs
      → R (key (get_or xs i d)) q ≡ Equal → find R q (map entry xs) ≡ Some (value (get_or xs i d))
  found_at [] q i d rising below tied = absurd (omega arith)
  found_at (x ∷ xs) q zero d rising below tied =
      ap (λ r. cond (is_eq r) (Some (value x)) (find R q (map entry xs))) (tied_back o (key x) q tied)
  found_at (x ∷ xs) q (suc i) d rising below tied =
      let within : i < length xs = omega arith in
      let less : R (key x) q ≡ Less = sym (alike_right o (key (get_or xs i d)) q (key x) tied)
      ∙ at_place (key x) xs i d (rising_head Below (entry x) (map entry xs) rising) within in
      ap (λ r. cond (is_eq r) (Some (value x)) (find R q (map entry xs))) (turned (key x) q Less less)
      ∙ found_at xs q i d (rising_tail Below (entry x) (map entry xs) rising) within tied

  not_found : (xs : List X) (q : K) (i : ℕ) → AllWithin (λ x. R (key x) q ≡ Less) xs 0 i
      → AllWithin (λ x. R (key x) q ≡ Greater) xs i (length xs) → find R q (map entry xs) ≡ None
  not_found [] q i below above = refl
  not_found (x ∷ xs) q zero below above =
      ap (λ r. cond (is_eq r) (Some (value x)) (find R q (map entry xs)))
      (turned (key x) q Greater (above 0 x (omega arith) (omega arith)))
      ∙ not_found xs q zero (λ k d low high. absurd (omega arith))
      (λ k d low high. above (suc k) d (omega arith) (omega arith))
  not_found (x ∷ xs) q (suc i) below above =
      ap (λ r. cond (is_eq r) (Some (value x)) (find R q (map entry xs)))
      (turned (key x) q Less (below 0 x (omega arith) (omega arith)))
      ∙ not_found xs q i (λ k d low high. below (suc k) d (omega arith) (omega arith))
      (λ k d low high. above (suc k) d (omega arith) (omega arith))

  neighbours : (xs : List X) → IsStrictlySortedBy Below (map entry xs)
      → IsSortedBy (λ (a b : X). is_lt (R (key a) (key b))) xs
  neighbours [] h k d low high = absurd (omega arith)
  neighbours (x ∷ []) h k d low high = absurd (omega arith)
  neighbours (x ∷ y ∷ xs) h zero d low high =
      ap is_lt (turned (key x) (key y) Less (rising_head Below (entry x) (map entry (y ∷ xs)) h).0)
  neighbours (x ∷ y ∷ xs) h (suc k) d low high =
      let next : suc k + 1 ≡ suc (k + 1) = omega arith in
      subst (λ n. is_lt (R (key (get_or (x ∷ y ∷ xs) n d)) (key (get_or (y ∷ xs) k d))) ≡ false) (sym next)
      (neighbours (y ∷ xs) (rising_tail Below (entry x) (map entry (y ∷ xs)) h) k d (omega arith) (omega arith))

  pub found_by_search : (xs : List X) (q : K) (result : Result ℕ ℕ) → IsSearchInRange result (length xs)
      → IsBinarySearchResult (λ x. R (key x) q) xs result → IsFound R key value xs q result
  found_by_search xs q (Ok i) range tied sorted =
      (range, λ d. found_at xs q i d (rising_from_is_sorted R (map entry xs) sorted) range (tied d))
  found_by_search xs q (Err i) range parted sorted =
      let parts =
      parted (searchable_from_sorted o key xs q (neighbours xs (rising_from_is_sorted R (map entry xs) sorted))) in
      not_found xs q i parts.0 parts.1

-- attributes are in a total order
pub attribute_total : IsTotalOrder attribute_cmp
attribute_total = then_total (on_total (λ (x : AttributePlace). x.0) path_cmp_total)
    (on_total (λ (x : AttributePlace). x.1) name_cmp_total)
