-- A list of pairs on the two sides of a key, with its pair and without.
use Rattle.std.proofs.Common.{◌≡◌, ℕ, List, [], ◌∷◌, ◌++◌, not, cond, Some, None, Less, Equal, Greater, refl, sym, ap}
use Rattle.std.proofs.Common.{ap₂, subst, ◌∙◌}
use Rattle.std.specs.Ordering.{is_le, is_lt, is_eq}
use Rattle.std.specs.List.{AllByRecursion}
use Rattle.std.specs.List.Sorted.{IsStrictlySortedBy}
use Rattle.std.specs.FinMap.{find, put}
use Rattle.std.specs.FinMap.Entries.{by_order}
use Rattle.std.specs.Cmp.Lexicographic.{nat_list_cmp_total}
use Rattle.store_model.specs.Paths.{key_cmp}
use Rattle.store_model.specs.Pairs.{Pair}
use Rattle.store_model.proofs.ListsLemmas.{all_weaker, rising_head, rising_tail}
use Rattle.store_model.proofs.TreesLemmasFewer.{find_below_all}
use Rattle.node_pages.proofs.PlaceLemmas.{same_key, reversed}
use Rattle.ordered_pairs.specs.PairsState.{without}
use Rattle.skip_levels.specs.SearchPath.{not_above, below, above}

-- a list that lacks the pair of a key
pub record Lacks (key : List ℕ) (s : List Pair) : Type 0 where
  pub sides : s ≡ below key s ++ above key s
  pub floor : not_above key s ≡ below key s
  pub put : (value : List ℕ) → put key_cmp key value s ≡ below key s ++ (key, value) ∷ above key s
  pub kept : without key s ≡ s

-- a list with the pair of a key
pub record Has (key value : List ℕ) (s : List Pair) : Type 0 where
  pub sides : s ≡ below key s ++ (key, value) ∷ above key s
  pub floor : not_above key s ≡ below key s ++ (key, value) ∷ []
  pub put : (other : List ℕ) → put key_cmp key other s ≡ below key s ++ (key, other) ∷ above key s
  pub taken : without key s ≡ below key s ++ above key s

module _ (key : List ℕ) where
  -- pairs that are all above the key
  record AreAbove (s : List Pair) : Type 0 where
    none_below : below key s ≡ []
    none_at : not_above key s ≡ []
    all_above : above key s ≡ s
    all_kept : without key s ≡ s

  are_above : (s : List Pair) → AllByRecursion (λ p. key_cmp p.0 key ≡ Greater) s → AreAbove s
  are_above [] h = record { none_below = refl; none_at = refl; all_above = refl; all_kept = refl }
  are_above (e ∷ s) h =
      let rest = are_above s h.1 in
      record {
        none_below = ap (λ o. cond (is_lt o) (e ∷ below key s) (below key s)) h.0 ∙ rest.none_below;
        none_at = ap (λ o. cond (is_le o) (e ∷ not_above key s) (not_above key s)) h.0 ∙ rest.none_at;
        all_above = ap (λ o. cond (not (is_le o)) (e ∷ above key s) (above key s)) h.0
            ∙ ap (λ xs. e ∷ xs) rest.all_above;
        all_kept = ap (λ o. cond (not (is_eq o)) (e ∷ without key s) (without key s)) (reversed e.0 key Greater h.0)
            ∙ ap (λ xs. e ∷ xs) rest.all_kept;
      }

  -- what stands behind a pair that is not below the key
  above_all : (e : Pair) (s : List Pair) → IsStrictlySortedBy (λ a b. key_cmp a.0 b.0) (e ∷ s)
      → ((other : List ℕ) → key_cmp e.0 other ≡ Less → key_cmp key other ≡ Less)
      → AllByRecursion (λ p. key_cmp p.0 key ≡ Greater) s
  above_all e s rising further =
      all_weaker (λ (p : Pair). key_cmp e.0 p.0 ≡ Less) (λ p. key_cmp p.0 key ≡ Greater)
      (λ p less. reversed key p.0 Less (further p.0 less)) s
      (rising_head (λ (a b : Pair). key_cmp a.0 b.0) e s rising)

  -- a pair below the key
  module _ (e : Pair) (s : List Pair) (greater : key_cmp key e.0 ≡ Greater) where
    lower : key_cmp e.0 key ≡ Less
    lower = reversed key e.0 Greater greater

    pub below_more : below key (e ∷ s) ≡ e ∷ below key s
    below_more = ap (λ o. cond (is_lt o) (e ∷ below key s) (below key s)) lower

    pub at_more : not_above key (e ∷ s) ≡ e ∷ not_above key s
    at_more = ap (λ o. cond (is_le o) (e ∷ not_above key s) (not_above key s)) lower

    pub above_same : above key (e ∷ s) ≡ above key s
    above_same = ap (λ o. cond (not (is_le o)) (e ∷ above key s) (above key s)) lower

    pub put_more : (value : List ℕ) → put key_cmp key value (e ∷ s) ≡ e ∷ put key_cmp key value s
    put_more value = ap (λ o. by_order o ((key, value) ∷ e ∷ s) ((e.0, value) ∷ s) (e ∷ put key_cmp key value s))
        greater

    pub without_more : without key (e ∷ s) ≡ e ∷ without key s
    without_more = ap (λ o. cond (not (is_eq o)) (e ∷ without key s) (without key s)) greater

    pub find_same : find key_cmp key (e ∷ s) ≡ find key_cmp key s
    find_same = ap (λ o. cond (is_eq o) (Some e.1) (find key_cmp key s)) greater

  -- all pairs are above the key
  lacks_first : (e : Pair) (s : List Pair) → AllByRecursion (λ p. key_cmp p.0 key ≡ Greater) (e ∷ s)
      → key_cmp key e.0 ≡ Less → Lacks key (e ∷ s)
  lacks_first e s all less =
      let a = are_above (e ∷ s) all in
      record {
        sides = sym (ap₂ (λ xs ys. xs ++ ys) a.none_below a.all_above);
        floor = a.none_at ∙ sym a.none_below;
        put = λ value. ap (λ o. by_order o ((key, value) ∷ e ∷ s) ((e.0, value) ∷ s) (e ∷ put key_cmp key value s)) less
            ∙ sym (ap₂ (λ xs ys. xs ++ (key, value) ∷ ys) a.none_below a.all_above);
        kept = a.all_kept;
      }

  pub lacks_pair : (s : List Pair) → IsStrictlySortedBy (λ a b. key_cmp a.0 b.0) s
      → find key_cmp key s ≡ None → Lacks key s
  lacks_pair [] rising none = record { sides = refl; floor = refl; put = λ value. refl; kept = refl }
  lacks_pair (e ∷ s) rising none =
      elim (key_cmp key e.0) as (λ o. key_cmp key e.0 ≡ o → Lacks key (e ∷ s)) [
        | Less ↦ λ less. lacks_first e s (
          reversed key e.0 Less less,
          above_all e s rising
              (λ other h. nat_list_cmp_total.trans key e.0 other less h),
        ) less
        | Equal ↦ λ equal. let found = sym (ap (λ o. cond (is_eq o) (Some e.1) (find key_cmp key s)) equal) ∙ none
            in absurd (cc)
        | Greater ↦ λ greater.
            let rest = lacks_pair s (rising_tail (λ (a b : Pair). key_cmp a.0 b.0) e s rising)
            (sym (find_same e s greater) ∙ none) in
            let joined = ap₂ (λ xs ys. xs ++ ys) (below_more e s greater) (above_same e s greater) in
            record {
              sides = ap (λ xs. e ∷ xs) rest.sides ∙ sym joined;
              floor = at_more e s greater ∙ ap (λ xs. e ∷ xs) rest.floor ∙ sym (below_more e s greater);
              put = λ value. put_more e s greater value ∙ ap (λ xs. e ∷ xs) (rest.put value)
                  ∙ sym (ap₂ (λ xs ys. xs ++ (key, value) ∷ ys) (below_more e s greater) (above_same e s greater));
              kept = without_more e s greater ∙ ap (λ xs. e ∷ xs) rest.kept;
            }
      ] refl

  -- the first pair is the key's
  has_first : (value : List ℕ) (e : Pair) (s : List Pair) → e.0 ≡ key → e.1 ≡ value → key_cmp key e.0 ≡ Equal
      → AllByRecursion (λ p. key_cmp p.0 key ≡ Greater) s → Has key value (e ∷ s)
  has_first value e s is_key is_value equal all =
      let a = are_above s all in
      let back = reversed key e.0 Equal equal in
      let pair : e ≡ (key, value) = ap₂ (λ (x y : List ℕ). (x, y)) is_key is_value in
      let low : below key (e ∷ s) ≡ [] = ap (λ o. cond (is_lt o) (e ∷ below key s) (below key s)) back ∙ a.none_below in
      let high : above key (e ∷ s) ≡ s =
      ap (λ o. cond (not (is_le o)) (e ∷ above key s) (above key s)) back ∙ a.all_above in
      record {
        sides = ap (λ p. p ∷ s) pair ∙ sym (ap₂ (λ xs ys. xs ++ (key, value) ∷ ys) low high);
        floor = ap (λ o. cond (is_le o) (e ∷ not_above key s) (not_above key s)) back
            ∙ ap₂ (λ p xs. p ∷ xs) pair a.none_at ∙ sym (ap (λ xs. xs ++ (key, value) ∷ []) low);
        put = λ other.
            ap (λ o. by_order o ((key, other) ∷ e ∷ s) ((e.0, other) ∷ s) (e ∷ put key_cmp key other s)) equal
            ∙ ap (λ (k : List ℕ). (k, other) ∷ s) is_key
            ∙ sym (ap₂ (λ xs ys. xs ++ (key, other) ∷ ys) low high);
        taken = ap (λ o. cond (not (is_eq o)) (e ∷ without key s) (without key s)) equal ∙ a.all_kept
            ∙ sym (ap₂ (λ xs ys. xs ++ ys) low high);
      }

  pub has_pair : (value : List ℕ) (s : List Pair) → IsStrictlySortedBy (λ a b. key_cmp a.0 b.0) s
      → find key_cmp key s ≡ Some value → Has key value s
  has_pair value [] rising found = absurd (cc)
  has_pair value (e ∷ s) rising found =
      elim (key_cmp key e.0) as (λ o. key_cmp key e.0 ≡ o → Has key value (e ∷ s)) [
        | Less ↦ λ less.
            let all = all_weaker (λ (p : Pair). key_cmp e.0 p.0 ≡ Less) (λ p. key_cmp key p.0 ≡ Less)
            (λ p h. nat_list_cmp_total.trans key e.0 p.0 less h) s
            (rising_head (λ (a b : Pair). key_cmp a.0 b.0) e s rising) in
            let none = find_below_all key_cmp key (e ∷ s) (less, all) in
            absurd (cc)
        | Equal ↦ λ equal.
            let is_key = sym (same_key key e.0 equal) in
            let here = sym (ap (λ o. cond (is_eq o) (Some e.1) (find key_cmp key s)) equal) ∙ found in
            has_first value e s is_key (same_value e.1 value here) equal
            (above_all e s rising (λ other h. subst (λ k. key_cmp k other ≡ Less) is_key h))
        | Greater ↦ λ greater.
            let rest = has_pair value s (rising_tail (λ (a b : Pair). key_cmp a.0 b.0) e s rising)
            (sym (find_same e s greater) ∙ found) in
            let low = below_more e s greater in
            let high = above_same e s greater in
            record {
              sides = ap (λ xs. e ∷ xs) rest.sides ∙ sym (ap₂ (λ xs ys. xs ++ (key, value) ∷ ys) low high);
              floor = at_more e s greater ∙ ap (λ xs. e ∷ xs) rest.floor ∙ sym (ap (λ xs. xs ++ (key, value) ∷ []) low);
              put = λ other. put_more e s greater other ∙ ap (λ xs. e ∷ xs) (rest.put other)
                  ∙ sym (ap₂ (λ xs ys. xs ++ (key, other) ∷ ys) low high);
              taken = without_more e s greater ∙ ap (λ xs. e ∷ xs) rest.taken ∙ sym (ap₂ (λ xs ys. xs ++ ys) low high);
            }
      ] refl
    where
      same_value : (a b : List ℕ) → Some a ≡ Some b → a ≡ b
      same_value a b e = cc
