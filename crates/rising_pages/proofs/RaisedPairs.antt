-- The keys above level 0 as pairs, and the pages of the levels above 0.
use Rattle.std.proofs.Common.{◌≡◌, ℕ, zero, suc, ◌-◌, ◌≤◌, List, [], ◌∷◌, ◌++◌, map, length, Bool, true}
use Rattle.std.proofs.Common.{false}
use Rattle.std.proofs.Common.{Ordering, cond, nat_le, refl, ap, ap₂, arith}
use Rattle.std.specs.List.{filter, flat_map, AllByRecursion}
use Rattle.std.proofs.lemmas.List.{length-map}
use Rattle.std.proofs.lemmas.List.Kept.{IsStrictlySortedBy-filter}
use Rattle.store_model.specs.Lists.{numbers_from}
use Rattle.store_model.specs.Paths.{key_cmp}
use Rattle.store_model.specs.Draws.{Draw}
use Rattle.store_model.specs.Pairs.{Pair, IsPair, IsPairs, directory_value}
use Rattle.store_model.specs.Pages.{level_pages, pages_of_pairs}
use Rattle.layout_scratch.specs.Sorting.{pair_cmp}
use Rattle.store_model.proofs.ListsLemmas.{bytes_from_all, all_map, all_filter, rising_to_map, rising_from_is_sorted}
use Rattle.store_model.proofs.ListsLemmas.{is_sorted_from_rising}
use Rattle.store_model.proofs.ListsLemmasCuts.{length-filter-le}
use Rattle.rising_pages.specs.declared.raised.RaisedKey.{RaisedKey}
use Rattle.rising_pages.specs.Raised.{raised_pairs, raised_keys, AreRaised, key_pair, key_pairs, upper_pages}
use Rattle.rising_pages.proofs.RaisedLevels.{raised_tell}

-- ---- the keys

-- each has the level that it is drawn
pub are_raised : (d : Draw) (s : List Pair) → AreRaised d (raised_keys d s)
unfolding raised_pairs
are_raised d [] = tt
are_raised d (y ∷ s) =
    let rest = are_raised d s in
    let key : Pair → RaisedKey = λ pair. record { key = pair.0; level = d.level pair.0 } in
    elim (nat_le 1 (d.level y.0)) as (λ b. AllByRecursion (λ (r : RaisedKey). r.level ≡ d.level r.key)
    (map key (cond b (y ∷ raised_pairs d s) (raised_pairs d s)))) [ true ↦ (refl, rest) | false ↦ rest ]

-- no more than pairs
pub few_raised : (d : Draw) (s : List Pair) → length (raised_keys d s) ≤ length s
unfolding raised_pairs
few_raised d s =
    let stays : Pair → Bool = λ pair. nat_le 1 (d.level pair.0) in
    let key : Pair → RaisedKey = λ pair. record { key = pair.0; level = d.level pair.0 } in
    omega (arith, length-map (filter stays s) key, length-filter-le stays s)

-- they are compared as keys
abbrev raised_cmp : RaisedKey → RaisedKey → Ordering
raised_cmp a b = key_cmp a.key b.key

-- they are keys of pairs, and rise as those do
pub raised_are_pairs : (d : Draw) (s : List Pair) → IsPairs s → IsPairs (key_pairs (raised_keys d s))
unfolding raised_pairs
raised_are_pairs d s pairs =
    let stays : Pair → Bool = λ pair. nat_le 1 (d.level pair.0) in
    let key : Pair → RaisedKey = λ pair. record { key = pair.0; level = d.level pair.0 } in
    let keys = raised_keys d s in
    record {
      sorted = is_sorted_from_rising key_cmp (key_pairs keys)
          (rising_to_map pair_cmp key_pair keys
          (rising_to_map raised_cmp key (filter stays s)
          (IsStrictlySortedBy-filter pair_cmp stays s (rising_from_is_sorted key_cmp s pairs.sorted))));
      pairs = all_map (λ (r : RaisedKey). IsPair (key_pair r)) IsPair key_pair (λ r is. is) keys
          (all_map IsPair (λ (r : RaisedKey). IsPair (key_pair r)) key (λ pair is. bare pair is) (filter stays s)
          (all_filter IsPair stays s pairs.pairs));
    }
  where
    bare : (pair : Pair) → IsPair pair → IsPair (pair.0, directory_value)
    bare pair is = record {
      key_length = is.key_length;
      key_bytes = is.key_bytes;
      value = (omega arith, omega arith, bytes_from_all directory_value (omega arith, tt));
    }

-- ---- the pages

-- what two functions make of numbers, where they are the same from the first number on
flat_map-from : {A : Type 0} (f g : ℕ → List A) (first count : ℕ) → ((n : ℕ) → first ≤ n → f n ≡ g n)
    → flat_map f (numbers_from first count) ≡ flat_map g (numbers_from first count)
unfolding numbers_from
flat_map-from f g first zero same = refl
flat_map-from f g first (suc count) same =
    ap₂ (λ us vs. us ++ vs) (same first (omega arith))
    (flat_map-from f g (suc first) count (λ n above. same n (omega (arith, above))))

-- those of the levels above 0 follow from the keys above level 0
pub upper_told : (d : Draw) (s : List Pair) → upper_pages d (key_pairs (raised_keys d s)) ≡ upper_pages d s
upper_told d s =
    flat_map-from (level_pages d (key_pairs (raised_keys d s))) (level_pages d s) 1 (d.height - 1)
    (λ level above. raised_tell d s level above)

-- those of all levels are those of level 0 and of the others
pub lower_and_upper : (d : Draw) (s : List Pair) → 1 ≤ d.height
    → level_pages d s 0 ++ upper_pages d s ≡ pages_of_pairs d s
unfolding pages_of_pairs numbers_from
lower_and_upper d s some =
    ap (λ n. flat_map (level_pages d s) (numbers_from 0 n))
    (let whole : suc (d.height - 1) ≡ d.height = omega (arith, some) in whole)
