-- What is known of a list of pairs once it is sorted.
use Rattle.std.proofs.Common.{◌≡◌, ℕ, ◌≤◌, List, map, length, sym, ap, ap₂, subst, ◌∙◌, arith}
use Rattle.std.specs.List.{flat_map}
use Rattle.std.specs.List.Sorted.{IsStrictlySortedBy}
use Rattle.std.proofs.lemmas.List.{length-map}
use Rattle.std.proofs.lemmas.List.Sorted.{length_permutation}
use Rattle.store_model.specs.Lists.{numbers_below}
use Rattle.store_model.specs.Paths.{key_cmp}
use Rattle.store_model.specs.Labels.{label_cmp}
use Rattle.store_model.specs.Draws.{Draw}
use Rattle.store_model.specs.Pairs.{Pair, IsPairs}
use Rattle.store_model.specs.Pages.{level_pages, pages_of_pairs}
use Rattle.store_model.proofs.ListsLemmas.{all_weaker, rising_from_is_sorted}
use Rattle.store_model.proofs.PlacementLemmas.{IsPermutation-in_order}
use Rattle.store_model.proofs.PagesLemmasOrder.{rising_labels}
use Rattle.layout_scratch.specs.declared.ranked.Ranked.{Ranked}
use Rattle.layout_scratch.specs.Sorting.{pair_cmp, by_key, sorted_limit}
use Rattle.layout_scratch.specs.Ranks.{pairs_of, AreRanked}

-- as many pairs as before
length-by_key : (pairs : List Pair) → length (by_key pairs) ≡ length pairs
length-by_key pairs = length_permutation pairs (by_key pairs) (IsPermutation-in_order pair_cmp pairs)

-- as many as are ranked
pub length-ranked : (ranked : List Ranked) (pairs : List Pair) → pairs_of ranked ≡ pairs → length ranked ≡ length pairs
length-ranked ranked pairs same = sym (length-map ranked (λ (r : Ranked). r.pair.now)) ∙ ap length same

-- and so many in the order of their keys
pub length-sorted : (sorted : List Ranked) (pairs : List Pair) → pairs_of sorted ≡ by_key pairs
    → length sorted ≡ length pairs
length-sorted sorted pairs same = length-ranked sorted (by_key pairs) same ∙ length-by_key pairs

-- the ranked pairs: they are few, their keys rise, their levels are drawn, and the pages of their levels are all
-- pages, which come by rank
pub record IsWhole (d : Draw) (pairs : List Pair) (height : ℕ) (ranked : List Ranked) : Type 0 where
  pub few : length ranked ≤ sorted_limit
  pub rising : IsStrictlySortedBy pair_cmp (pairs_of ranked)
  pub levels : AreRanked d ranked
  pub all : flat_map (level_pages d (pairs_of ranked)) (numbers_below height) ≡ pages_of_pairs d pairs
  pub by_rank : IsStrictlySortedBy label_cmp (map (λ page. page.label) (pages_of_pairs d pairs))

pub whole : (d : Draw) (height : ℕ) (pairs ranked : List Ranked) → length pairs ≤ sorted_limit → height ≡ d.height
    → ranked ≡ pairs → AreRanked d pairs → IsPairs (pairs_of pairs) → IsWhole d (pairs_of pairs) height ranked
unfolding pages_of_pairs
whole d height pairs ranked few height_is same levels valid = record {
  few = omega (arith, ap length same);
  rising = subst (λ rs. IsStrictlySortedBy pair_cmp (pairs_of rs)) (sym same)
      (rising_from_is_sorted key_cmp (pairs_of pairs) valid.sorted);
  levels = subst (AreRanked d) (sym same) levels;
  all = ap₂ (λ rs n. flat_map (level_pages d (pairs_of rs)) (numbers_below n)) same height_is;
  by_rank = rising_labels d (pairs_of pairs) (record {
    sorted = valid.sorted;
    lengths = all_weaker _ _ (λ pair is. is.key_length) (pairs_of pairs) valid.pairs;
    few = omega (arith, length-map pairs (λ (r : Ranked). r.pair.now));
  });
}
