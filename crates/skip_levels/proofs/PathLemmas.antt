-- The sides of a key in a list of pairs, and the groups on its search path.
use Rattle.std.proofs.Common.{◌≡◌, ℕ, ◌<◌, ◌≤◌, List, [], ◌∷◌, ◌++◌, filter, length, Bool, true, false, not, cond}
use Rattle.std.proofs.Common.{nat_le, Less, Equal, Greater, refl, sym, ap, subst, ◌∙◌, arith, length-append}
use Rattle.std.specs.Ordering.{is_le}
use Rattle.std.specs.List.{AllByRecursion}
use Rattle.std.specs.List.Sorted.{IsStrictlySortedBy}
use Rattle.std.specs.Cmp.Lexicographic.{nat_list_cmp_total}
use Rattle.std.proofs.lemmas.List.{length-map}
use Rattle.store_model.specs.Paths.{key_cmp}
use Rattle.store_model.specs.Draws.{Draw}
use Rattle.store_model.specs.Pairs.{Pair}
use Rattle.store_model.specs.Pages.{cell_on, level_list, leads_group}
use Rattle.store_model.proofs.ListsLemmas.{all_map, all_filter, all_weaker, rising_head, rising_tail}
use Rattle.store_model.proofs.ListsLemmas.{rising_from_is_sorted}
use Rattle.store_model.proofs.ListsLemmasCuts.{length-filter-le}
use Rattle.store_model.proofs.PagesLemmasOrder.{cell_on-key}
use Rattle.node_pages.specs.PagesState.{PagesState, most_pages}
use Rattle.node_pages.proofs.PlaceLemmas.{same_key}
use Rattle.skip_groups.specs.Floors.{is_not_above}
use Rattle.skip_groups.specs.Groups.{HoldsGroup}
use Rattle.skip_levels.specs.SearchPath.{leader_behind, not_above, above}
use Rattle.skip_levels.specs.Descent.{HoldsPairs}
use Rattle.skip_levels.proofs.Around.{last_part, first_cut}
use Rattle.skip_levels.proofs.PlaceGroups.{group_of_place, holds_place}

-- a key above one that is above the key is above it
pub stays_above : (a b key : List ℕ) → key_cmp a b ≡ Less → is_le (key_cmp a key) ≡ false
    → is_le (key_cmp b key) ≡ false
stays_above a b key less fails =
    elim (key_cmp b key) as (λ o. key_cmp b key ≡ o → is_le o ≡ false) [
      | Less ↦ λ e. let l = nat_list_cmp_total.trans a b key less e in let f = sym fails ∙ ap is_le l in absurd (cc)
      | Equal ↦ λ e. let l = subst (λ k. key_cmp a k ≡ Less) (same_key b key e) less
          in let f = sym fails ∙ ap is_le l in absurd (cc)
      | Greater ↦ λ e. refl
    ] refl

-- of pairs above the key none is on its lower side, and all are on the other
pub none_below : (key : List ℕ) (s : List Pair)
    → AllByRecursion (λ pair. is_le (key_cmp pair.0 key) ≡ false) s → not_above key s ≡ []
none_below key [] h = refl
none_below key (e ∷ s) h = ap (λ b. cond b (e ∷ not_above key s) (not_above key s)) h.0 ∙ none_below key s h.1

pub all_above : (key : List ℕ) (s : List Pair)
    → AllByRecursion (λ pair. is_le (key_cmp pair.0 key) ≡ false) s → above key s ≡ s
all_above key [] h = refl
all_above key (e ∷ s) h = ap (λ b. cond (not b) (e ∷ above key s) (above key s)) h.0
    ∙ ap (λ xs. e ∷ xs) (all_above key s h.1)

-- a list that rises is its two sides
pub sides_of : (key : List ℕ) (s : List Pair) → IsStrictlySortedBy (λ a b. key_cmp a.0 b.0) s
    → s ≡ not_above key s ++ above key s
sides_of key [] rising = refl
sides_of key (e ∷ s) rising = by_test (is_le (key_cmp e.0 key)) refl
    (sides_of key s (rising_tail (λ (a b : Pair). key_cmp a.0 b.0) e s rising))
  where
    by_test : (b : Bool) → is_le (key_cmp e.0 key) ≡ b → s ≡ not_above key s ++ above key s
        → e ∷ s ≡ cond b (e ∷ not_above key s) (not_above key s) ++ cond (not b) (e ∷ above key s) (above key s)
    by_test true t rest = ap (λ xs. e ∷ xs) rest
    by_test false t rest =
        let fails = all_weaker (λ (f : Pair). key_cmp e.0 f.0 ≡ Less) (λ f. is_le (key_cmp f.0 key) ≡ false)
        (λ f less. stays_above e.0 f.0 key less t) s (rising_head (λ (a b : Pair). key_cmp a.0 b.0) e s rising) in
        sym (ap (λ xs. xs ++ (e ∷ above key s)) (none_below key s fails) ∙ ap (λ xs. e ∷ xs) (all_above key s fails))

-- what a filter keeps passes
pub all_kept : {X : Type 0} (p : X → Bool) (xs : List X) → AllByRecursion (λ x. p x ≡ true) (filter p xs)
all_kept p [] = tt
all_kept p (x ∷ xs) = by_test (p x) refl (all_kept p xs)
  where
    by_test : (b : Bool) → p x ≡ b → AllByRecursion (λ y. p y ≡ true) (filter p xs)
        → AllByRecursion (λ y. p y ≡ true) (cond b (x ∷ filter p xs) (filter p xs))
    by_test true e rest = (e, rest)
    by_test false e rest = rest

false_from_not : (b : Bool) → not b ≡ true → b ≡ false
false_from_not true e = absurd (cc)
false_from_not false e = refl

module _ (d : Draw) (level : ℕ) (key : List ℕ) (s : List Pair) where
  -- the cells of the two sides
  pub side_passes : AllByRecursion (λ c. is_not_above key c ≡ true) (level_list d (not_above key s) level)
  unfolding level_list
  side_passes =
      all_map (λ (pair : Pair). is_le (key_cmp pair.0 key) ≡ true) (λ c. is_not_above key c ≡ true) (cell_on level)
      (λ pair e. ap (λ k. is_le (key_cmp k key)) (cell_on-key level pair) ∙ e)
      (filter (λ pair. nat_le level (d.level pair.0)) (not_above key s))
      (all_filter _ (λ pair. nat_le level (d.level pair.0)) (not_above key s)
      (all_kept (λ (pair : Pair). is_le (key_cmp pair.0 key)) s))

  pub side_fails : AllByRecursion (λ c. is_not_above key c ≡ false) (level_list d (above key s) level)
  unfolding level_list
  side_fails =
      all_map (λ (pair : Pair). not (is_le (key_cmp pair.0 key)) ≡ true) (λ c. is_not_above key c ≡ false)
      (cell_on level) (λ pair e. ap (λ k. is_le (key_cmp k key)) (cell_on-key level pair)
      ∙ false_from_not (is_le (key_cmp pair.0 key)) e)
      (filter (λ pair. nat_le level (d.level pair.0)) (above key s))
      (all_filter _ (λ pair. nat_le level (d.level pair.0)) (above key s)
      (all_kept (λ (pair : Pair). not (is_le (key_cmp pair.0 key))) s))

-- a group has no more cells than the list has pairs
pub few_in_group : (d : Draw) (level : ℕ) (low high : List Pair)
    → length (group_of_place d level low high) ≤ length (low ++ high)
unfolding group_of_place level_list
few_in_group d level low high =
    let cuts = leads_group d level in
    let stays = λ (pair : Pair). nat_le level (d.level pair.0) in
    let l = last_part cuts (level_list d low level) in
    let h = first_cut cuts (level_list d high level) in
    omega (
      arith,
      length-append l.part h.part,
      ap length l.whole,
      length-append l.before l.part,
      ap length h.whole,
      length-append h.part h.behind,
      length-map (filter stays low) (cell_on level),
      length-map (filter stays high) (cell_on level),
      length-filter-le stays low,
      length-filter-le stays high,
      length-append low high,
    )

-- the pages hold the group of each place of the list
pub holds_pairs_place : (d : Draw) (s : List Pair) (pages : PagesState) (level : ℕ) (low high : List Pair)
    → s ≡ low ++ high → HoldsPairs d s pages.pages → level < d.height
    → HoldsGroup pages.pages level (leader_behind d level low) (group_of_place d level low high)
holds_pairs_place d s pages level low high sides h below =
    subst (λ m. HoldsGroup m level (leader_behind d level low) (group_of_place d level low high)) (sym h.map_is)
    (holds_place d s low high level sides (record { pairs = h.pairs; few = omega (arith, h.few) }) h.height below)

-- as the group of each level on the search path of a key
pub holds_path : (d : Draw) (s : List Pair) (pages : PagesState) (level : ℕ) (key : List ℕ)
    → HoldsPairs d s pages.pages → level < d.height
    → HoldsGroup pages.pages level (leader_behind d level (not_above key s))
    (group_of_place d level (not_above key s) (above key s))
holds_path d s pages level key h below =
    holds_pairs_place d s pages level (not_above key s) (above key s)
    (sides_of key s (rising_from_is_sorted key_cmp s h.pairs.sorted)) h below

pub few_on_path : (d : Draw) (s : List Pair) (pages : PagesState) (level : ℕ) (key : List ℕ)
    → HoldsPairs d s pages.pages → length (group_of_place d level (not_above key s) (above key s)) < most_pages
few_on_path d s pages level key h =
    omega (
      arith,
      few_in_group d level (not_above key s) (above key s),
      ap length
          (sides_of key s (rising_from_is_sorted key_cmp s h.pairs.sorted)),
      h.few,
    )
