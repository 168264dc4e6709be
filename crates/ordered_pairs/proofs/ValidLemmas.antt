-- Changes of a valid list of pairs leave a valid one.
use Rattle.std.proofs.Common.{◌≡◌, ℕ, List, [], ◌∷◌, Bool, true, false, not, IsTrue, T, Less, Equal, Greater, refl, sym}
use Rattle.std.proofs.Common.{subst}
use Rattle.std.specs.Ordering.{is_eq}
use Rattle.std.specs.List.{AllByRecursion}
use Rattle.std.specs.FinMap.{put}
use Rattle.std.specs.FinMap.Entries.{by_order, is_sorted-put, is_sorted-where_key}
use Rattle.std.specs.Cmp.Lexicographic.{nat_list_cmp_total}
use Rattle.store_base.specs.Keys.{IsKey}
use Rattle.store_model.specs.Paths.{key_cmp}
use Rattle.store_model.specs.Pairs.{Pair, IsPair, IsPairs, IsValue}
use Rattle.store_model.proofs.ListsLemmas.{all_filter}
use Rattle.node_pages.proofs.PlaceLemmas.{same_key}
use Rattle.ordered_pairs.specs.PairsState.{without}

-- a test that holds
true_from_holds : (b : Bool) → T b → IsTrue b
true_from_holds true h = refl
true_from_holds false h = absurd h

all_put : (P : Pair → Type 0) (key value : List ℕ) (s : List Pair) → P (key, value) → AllByRecursion P s
    → AllByRecursion P (put key_cmp key value s)
all_put P key value [] h g = (h, tt)
all_put P key value (e ∷ s) h g =
    elim (key_cmp key e.0) as (λ r. key_cmp key e.0 ≡ r
    → AllByRecursion P (by_order r ((key, value) ∷ e ∷ s) ((e.0, value) ∷ s) (e ∷ put key_cmp key value s))) [
      | Less ↦ λ p. (h, g)
      | Equal ↦ λ p. (subst (λ (k : List ℕ). P (k, value)) (same_key key e.0 p) h, g.1)
      | Greater ↦ λ p. (g.0, all_put P key value s h g.1)
    ] refl

pub IsPairs-put : (key value : List ℕ) (s : List Pair) → IsKey key → IsValue value → IsPairs s
    → IsPairs (put key_cmp key value s)
IsPairs-put key value s is_key is_value h = record {
  sorted = true_from_holds _ (is_sorted-put key_cmp nat_list_cmp_total key value s (subst T (sym h.sorted) tt));
  pairs = all_put IsPair key value s (record { key_length = is_key.0; key_bytes = is_key.1; value = is_value }) h.pairs;
}

pub IsPairs-without : (key : List ℕ) (s : List Pair) → IsPairs s → IsPairs (without key s)
IsPairs-without key s h = record {
  sorted = true_from_holds _ (is_sorted-where_key key_cmp (λ k. not (is_eq (key_cmp key k))) s
      (subst T (sym h.sorted) tt));
  pairs = all_filter IsPair (λ e. not (is_eq (key_cmp key e.0))) s h.pairs;
}
