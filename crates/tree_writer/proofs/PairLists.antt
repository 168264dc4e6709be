-- Pairs of an image: a front of them, and another value under one of their keys.
use Rattle.std.proofs.Common.{◌≡◌, ℕ, List, ◌∷◌, ◌++◌, sym, subst, ◌∙◌, arith}
use Rattle.std.specs.List.Sorted.{IsStrictlySortedBy}
use Rattle.std.proofs.lemmas.List.{map-append}
use Rattle.store_model.specs.Paths.{key_cmp}
use Rattle.store_model.specs.Pairs.{Pair, IsPair, IsPairs, IsValue, file_value}
use Rattle.store_model.proofs.ListsLemmas.{all_append, all_front, all_back, rising_front, rising_from_map}
use Rattle.store_model.proofs.ListsLemmas.{rising_to_map, rising_from_is_sorted, is_sorted_from_rising, bytes_from_all}
use Rattle.store_model.proofs.ListsLemmas.{be_bytes_are_bytes}
use Rattle.dump_streams.specs.Listed.{keys_of}

-- a front of pairs of an image is one too
pub front_is_pairs : (xs ys : List Pair) → IsPairs (xs ++ ys) → IsPairs xs
front_is_pairs xs ys all = record {
  sorted = is_sorted_from_rising key_cmp xs
      (rising_front (λ (a b : Pair). key_cmp a.0 b.0) xs ys (rising_from_is_sorted key_cmp (xs ++ ys) all.sorted));
  pairs = all_front IsPair xs ys all.pairs;
}

-- the value of a file's first pair is one, whatever length it has
pub file_value_is_value : (n : ℕ) → IsValue (file_value n)
file_value_is_value n = (omega arith, omega arith, bytes_from_all (file_value n) (omega arith, be_bytes_are_bytes n))

-- another value under a key leaves the keys as they are
pub keys_again : (xs : List Pair) (k v w : List ℕ) (ys : List Pair)
    → keys_of (xs ++ (k, v) ∷ ys) ≡ keys_of (xs ++ (k, w) ∷ ys)
keys_again xs k v w ys =
    map-append (λ (pair : Pair). pair.0) xs ((k, v) ∷ ys) ∙ sym (map-append (λ (pair : Pair). pair.0) xs ((k, w) ∷ ys))

-- so they are pairs of an image again
pub other_value : (xs : List Pair) (k v w : List ℕ) (ys : List Pair) → IsPairs (xs ++ (k, v) ∷ ys) → IsValue w
    → IsPairs (xs ++ (k, w) ∷ ys)
other_value xs k v w ys all is =
    let pair : IsPair (k, v) = (all_back IsPair xs ((k, v) ∷ ys) all.pairs).0 in
    let old : IsStrictlySortedBy key_cmp (keys_of (xs ++ (k, v) ∷ ys)) =
    rising_to_map key_cmp (λ (pair : Pair). pair.0) (xs ++ (k, v) ∷ ys)
    (rising_from_is_sorted key_cmp (xs ++ (k, v) ∷ ys) all.sorted) in
    record {
      sorted = is_sorted_from_rising key_cmp (xs ++ (k, w) ∷ ys)
          (rising_from_map key_cmp (λ (pair : Pair). pair.0) (xs ++ (k, w) ∷ ys)
          (subst (IsStrictlySortedBy key_cmp) (keys_again xs k v w ys) old));
      pairs = all_append IsPair xs ((k, w) ∷ ys) (all_front IsPair xs ((k, v) ∷ ys) all.pairs) (
        record { key_length = pair.key_length; key_bytes = pair.key_bytes; value = is },
        (all_back IsPair xs ((k, v) ∷ ys) all.pairs).1,
      );
    }
