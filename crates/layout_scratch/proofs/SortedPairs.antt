-- Pairs with the levels of their keys, one after the other.
use Rattle.std.proofs.Common.{◌≡◌, ℕ, ◌+◌, ◌<◌, ◌≤◌, List, [], ◌∷◌, ◌++◌, length, take, get_or, sym, ap, subst, ◌∙◌}
use Rattle.std.proofs.Common.{Some, slice_get, arith, length-take-le}
use Rattle.std.specs.List.{AllByRecursion}
use Rattle.std.specs.List.Sorted.{IsPermutation, IsSorted}
use Rattle.std.specs.Ordering.{eq_by_cmp}
use Rattle.std.specs.Cmp.{IsTotalOrder}
use Rattle.std.proofs.lemmas.Cmp.{on_total, nat_list_cmp_total, eq_by_cmp_equiv}
use Rattle.std.proofs.lemmas.List.Sorted.{IsPermutation-map}
use Rattle.std.proofs.lemmas.Map.Keys.{IsDistinct-IsPermutation}
use Rattle.std.proofs.lemmas.List.{take_more, map_push, take_all, length-map, get_or-take, get_or-map}
use Rattle.std.proofs.lemmas.Option.{slice_get_within, get_or_from_slice_get}
use Rattle.store_model.specs.Draws.{Draw}
use Rattle.store_model.specs.Paths.{key_cmp}
use Rattle.store_model.specs.Pairs.{Pair, IsPair, IsPairs}
use Rattle.store_model.proofs.ListsLemmas.{all_append, rising_to_map, is_sorted_from_rising}
use Rattle.store_model.proofs.ListsLemmasOrder.{AllByRecursion-permutation, IsPermutation-in_order, sorted_in_order}
use Rattle.store_model.proofs.ListsLemmasOrder.{same_as_in_order, distinct_from_map}
use Rattle.layout_scratch.specs.Sorting.{HasDistinctKeys, pair_cmp, by_key}
use Rattle.layout_scratch.specs.declared.ranked.Ranked.{Ranked}
use Rattle.layout_scratch.specs.Levels.{levels_of, AreLevels}
use Rattle.layout_scratch.specs.Ranks.{key_of, pairs_of, AreRanked}
use Rattle.layout_scratch.proofs.Rising.{rising_from_sorted}

-- the first i pairs are ranked, and are pairs
pub record RanksFirst (d : Draw) (pairs : List Pair) (i : ℕ) (ranked : List Ranked) : Type 0 where
  pub pairs_are : pairs_of ranked ≡ take i pairs
  pub levels : AreRanked d ranked
  pub valid : AllByRecursion IsPair (take i pairs)

-- one pair on
pub rank_more : (d : Draw) (pairs : List Pair) (i : ℕ) (ranked new : List Ranked) (r : Ranked)
    → RanksFirst d pairs i ranked → new ≡ ranked ++ r ∷ [] → i < length pairs → r.pair.now ≡ get_or pairs i r.pair.now
    → r.level ≡ d.level (key_of r) → IsPair r.pair.now → RanksFirst d pairs (i + 1) new
rank_more d pairs i ranked new r so_far new_is below here level is_pair =
    let more : take (i + 1) pairs ≡ take i pairs ++ r.pair.now ∷ [] =
    take_more pairs i r.pair.now below ∙ ap (λ p. take i pairs ++ p ∷ []) (sym here) in
    record {
      pairs_are = ap pairs_of new_is ∙ map_push (λ (x : Ranked). x.pair.now) ranked r
          ∙ ap (λ ps. ps ++ r.pair.now ∷ []) so_far.pairs_are ∙ sym more;
      levels = subst (AreRanked d) (sym new_is)
          (all_append (λ (x : Ranked). x.level ≡ d.level (key_of x)) ranked (r ∷ []) so_far.levels (level, tt));
      valid = subst (AllByRecursion IsPair) (sym more)
          (all_append IsPair (take i pairs) (r.pair.now ∷ []) so_far.valid (is_pair, tt));
    }

-- so many are ranked
pub rank_count : (d : Draw) (pairs : List Pair) (i : ℕ) (ranked : List Ranked) → RanksFirst d pairs i ranked
    → i < length pairs → length ranked ≡ i
rank_count d pairs i ranked so_far below =
    sym (length-map ranked (λ (r : Ranked). r.pair.now)) ∙ ap length so_far.pairs_are
    ∙ length-take-le i pairs (omega (arith, below))

-- a level that is known is that of the pair at its place
pub level_known : (d : Draw) (pairs : List Pair) (levels : List ℕ) (i level : ℕ) (pair : Pair)
    → AreLevels d pairs levels → slice_get levels i ≡ Some level → i < length pairs → pair ≡ get_or pairs i pair
    → level ≡ d.level pair.0
level_known d pairs levels i level pair known found below here =
    let in_levels : i < length levels = slice_get_within levels i level found in
    sym (get_or_from_slice_get levels i level level found)
    ∙ ap (λ (ls : List ℕ). get_or ls i level) known
    ∙ get_or-take (length levels) (levels_of d pairs) i level in_levels
    ∙ get_or-map (λ (p : Pair). d.level p.0) pairs i pair level below
    ∙ ap (λ (p : Pair). d.level p.0) (sym here)

-- no pair yet
pub rank_none : (d : Draw) (pairs : List Pair) (ranked : List Ranked) → ranked ≡ [] → RanksFirst d pairs 0 ranked
rank_none d pairs ranked empty = record {
  pairs_are = ap pairs_of empty;
  levels = subst (AreRanked d) (sym empty) tt;
  valid = tt;
}

-- all pairs
pub record RanksAll (d : Draw) (pairs : List Pair) (ranked : List Ranked) : Type 0 where
  pub pairs_are : pairs_of ranked ≡ pairs
  pub levels : AreRanked d ranked
  pub valid : AllByRecursion IsPair pairs

pub rank_all : (d : Draw) (pairs : List Pair) (i : ℕ) (ranked : List Ranked) → RanksFirst d pairs i ranked
    → length pairs ≤ i → RanksAll d pairs ranked
rank_all d pairs i ranked so_far all =
    let whole = take_all i pairs all in
    record {
      pairs_are = so_far.pairs_are ∙ whole;
      levels = so_far.levels;
      valid = subst (AllByRecursion IsPair) whole so_far.valid;
    }

-- ---- in the order of keys

-- pairs are in a total order, by their keys
pair_cmp_total : IsTotalOrder pair_cmp
pair_cmp_total = on_total (λ (pair : Pair). pair.0) nat_list_cmp_total

-- a sort of ranked pairs by their keys puts the pairs in order
pub sorted_by_key : (pairs : List Pair) (ranked sorted : List Ranked) → pairs_of ranked ≡ pairs → HasDistinctKeys pairs
    → IsPermutation ranked sorted → IsSorted (λ a b. key_cmp (key_of a) (key_of b)) sorted
    → pairs_of sorted ≡ by_key pairs
sorted_by_key pairs ranked sorted pairs_are apart moves up =
    let pair_of : Ranked → Pair = λ r. r.pair.now in
    let distinct = distinct_from_map key_cmp (λ (pair : Pair). pair.0) pairs apart in
    let across = subst (λ ps. IsPermutation ps (pairs_of sorted)) pairs_are
    (IsPermutation-map pair_of ranked sorted moves) in
    let apart_sorted = IsDistinct-IsPermutation (eq_by_cmp pair_cmp) (eq_by_cmp_equiv pair_cmp_total).symm pairs
    (pairs_of sorted) across distinct in
    let rising = rising_to_map pair_cmp pair_of sorted
    (rising_from_sorted key_cmp key_of sorted nat_list_cmp_total up
    (distinct_from_map pair_cmp pair_of sorted apart_sorted)) in
    same_as_in_order pair_cmp pair_cmp_total pairs (pairs_of sorted) across distinct rising

-- in order they are a finite map
pub pairs_in_order : (pairs : List Pair) → AllByRecursion IsPair pairs → HasDistinctKeys pairs → IsPairs (by_key pairs)
pairs_in_order pairs valid apart = record {
  sorted = is_sorted_from_rising key_cmp (by_key pairs)
      (sorted_in_order pair_cmp pair_cmp_total pairs (distinct_from_map key_cmp (λ (pair : Pair). pair.0) pairs apart));
  pairs = AllByRecursion-permutation IsPair pairs (by_key pairs) (IsPermutation-in_order pair_cmp pairs) valid;
}
