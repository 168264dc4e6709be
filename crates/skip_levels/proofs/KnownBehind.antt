-- What is known of a group of level 0 behind a put, and behind a pair that was taken out.
use Rattle.std.proofs.Common.{◌≡◌, inl, inr, ℕ, ◌<◌, List, [], ◌∷◌, ◌++◌, map, filter, Bool, true, false, not, cond}
use Rattle.std.proofs.Common.{nat_lt, Option, None, Some, Less, Equal, Greater, refl, sym, ap, ◌∙◌, arith, lt-ltb, ◌==◌}
use Rattle.std.specs.Ordering.{is_le, is_lt, is_eq}
use Rattle.std.specs.FinMap.{find, put}
use Rattle.std.specs.FinMap.Entries.{by_order, find-put}
use Rattle.std.specs.Cmp.{tied_itself}
use Rattle.std.specs.Cmp.Lexicographic.{nat_list_cmp_total}
use Rattle.std.proofs.lemmas.Bool.{le-ltb}
use Rattle.std.proofs.lemmas.Bool.Decides.{nat_tests}
use Rattle.std.proofs.lemmas.List.{map-append, append-nil}
use Rattle.std.proofs.lemmas.List.Elements.{filter-append}
use Rattle.store_base.specs.declared.label.Lead.TheVariants as leads
use Rattle.store_model.specs.Paths.{key_cmp}
use Rattle.store_model.specs.Draws.{Draw}
use Rattle.store_model.specs.Labels.Lead.{Leader}
use Rattle.store_model.specs.Pairs.{Pair, IsPairs}
use Rattle.store_model.proofs.ListsLemmas.{rising_from_is_sorted}
use Rattle.node_pages.proofs.PlaceLemmas.{same_key, reversed}
use Rattle.skip_levels.specs.declared.walk.PathEnd.{PathEnd}
use Rattle.skip_levels.specs.declared.put_place.PutPlace.{PutPlace}
use Rattle.skip_levels.specs.Descent.{IsPlace, IsKnownGroup, IsAt}
use Rattle.ordered_pairs.specs.PairsState.{without}
use Rattle.skip_levels.specs.PutPlaces.{IsPutPlace, behind, leads_own}
use Rattle.skip_levels.specs.SearchPath.{last_lead, leader_behind, leader_ahead, not_above, below, above}
use Rattle.skip_levels.proofs.KnownPlaces.{known_at}
use Rattle.skip_levels.proofs.NextPairs.{pair_leads}
use Rattle.skip_levels.proofs.PairSides.{lacks_pair, has_pair}

-- ---- a change of a key leaves the pairs of others

kept_put : (q : List ℕ → Bool) (key value : List ℕ) (s : List Pair) → q key ≡ false
    → filter (λ pair. q pair.0) (put key_cmp key value s) ≡ filter (λ pair. q pair.0) s
kept_put q key value [] none = ap (λ b. cond b ((key, value) ∷ []) []) none
kept_put q key value (e ∷ s) none =
    let rest = filter (λ pair. q pair.0) s in
    let on = filter (λ pair. q pair.0) (e ∷ s) in
    elim (key_cmp key e.0) as (λ r. key_cmp key e.0 ≡ r
    → filter (λ pair. q pair.0) (by_order r ((key, value) ∷ e ∷ s) ((e.0, value) ∷ s) (e ∷ put key_cmp key value s))
    ≡ filter (λ pair. q pair.0) (e ∷ s)) [
      | Less ↦ λ p. ap (λ b. cond b ((key, value) ∷ on) on) none
      | Equal ↦ λ p.
          let off : q e.0 ≡ false = ap q (sym (same_key key e.0 p)) ∙ none in
          ap (λ b. cond b ((e.0, value) ∷ rest) rest) off ∙ sym (ap (λ b. cond b (e ∷ rest) rest) off)
      | Greater ↦ λ p. ap (λ xs. cond (q e.0) (e ∷ xs) xs) (kept_put q key value s none)
    ] refl

itself : (key : List ℕ) → key_cmp key key ≡ Equal
itself key = tied_itself nat_list_cmp_total key

-- of the list without the key the lower side is what was below it, and the higher side stays
not_above_without : (key : List ℕ) (s : List Pair) → not_above key (without key s) ≡ below key s
not_above_without key [] = refl
not_above_without key (e ∷ s) =
    let rest = not_above_without key s in
    elim (key_cmp key e.0) as (λ r. key_cmp key e.0 ≡ r
    → not_above key (cond (not (is_eq r)) (e ∷ without key s) (without key s)) ≡ below key (e ∷ s)) [
      | Less ↦ λ p.
          let back = reversed key e.0 Less p in
          ap (λ o. cond (is_le o) (e ∷ not_above key (without key s)) (not_above key (without key s))) back ∙ rest
          ∙ sym (ap (λ o. cond (is_lt o) (e ∷ below key s) (below key s)) back)
      | Equal ↦ λ p. rest ∙ sym (ap (λ o. cond (is_lt o) (e ∷ below key s) (below key s)) (reversed key e.0 Equal p))
      | Greater ↦ λ p.
          let back = reversed key e.0 Greater p in
          ap (λ o. cond (is_le o) (e ∷ not_above key (without key s)) (not_above key (without key s))) back
          ∙ ap (λ xs. e ∷ xs) rest ∙ sym (ap (λ o. cond (is_lt o) (e ∷ below key s) (below key s)) back)
    ] refl

above_without : (key : List ℕ) (s : List Pair) → above key (without key s) ≡ above key s
above_without key [] = refl
above_without key (e ∷ s) =
    let rest = above_without key s in
    elim (key_cmp key e.0) as (λ r. key_cmp key e.0 ≡ r
    → above key (cond (not (is_eq r)) (e ∷ without key s) (without key s)) ≡ above key (e ∷ s)) [
      | Less ↦ λ p. ap (λ xs. cond (not (is_le (key_cmp e.0 key))) (e ∷ xs) xs) rest
      | Equal ↦ λ p. rest
          ∙ sym (ap (λ o. cond (not (is_le o)) (e ∷ above key s) (above key s)) (reversed key e.0 Equal p))
      | Greater ↦ λ p. ap (λ xs. cond (not (is_le (key_cmp e.0 key))) (e ∷ xs) xs) rest
    ] refl

-- ---- what leads behind one pair more

module _ (d : Draw) (low : List Pair) (key : List ℕ) where
  abbrev stands : Pair → Bool
  stands pair = nat_lt 0 (d.level pair.0)

  abbrev leaders : List Pair → List (List ℕ)
  leaders s = map (λ (pair : Pair). pair.0) (filter stands s)

  one_more : (value : List ℕ) → leaders (low ++ (key, value) ∷ [])
      ≡ leaders low ++ cond (nat_lt 0 (d.level key)) (key ∷ []) []
  one_more value =
      ap (map (λ (pair : Pair). pair.0)) (filter-append stands low ((key, value) ∷ []))
      ∙ map-append (λ (pair : Pair). pair.0) (filter stands low) (filter stands ((key, value) ∷ []))
      ∙ ap (λ xs. leaders low ++ xs) (by_test (nat_lt 0 (d.level key)))
    where
      by_test : (b : Bool) → map (λ (pair : Pair). pair.0) (cond b ((key, value) ∷ []) []) ≡ cond b (key ∷ []) []
      by_test true = refl
      by_test false = refl

  -- its value makes no difference
  same_leader : (value other : List ℕ) → leader_behind d 0 (low ++ (key, value) ∷ [])
      ≡ leader_behind d 0 (low ++ (key, other) ∷ [])
  same_leader value other = ap last_lead (one_more value ∙ sym (one_more other))

  -- a key of level 0 leads no group
  leads_none : (value : List ℕ) → d.level key ≡ 0 → leader_behind d 0 (low ++ (key, value) ∷ []) ≡ leader_behind d 0 low
  leads_none value lowest =
      ap last_lead (one_more value ∙ ap (λ b. leaders low ++ cond b (key ∷ []) [])
      (le-ltb 0 (d.level key) (omega (arith, lowest))) ∙ append-nil (leaders low))

-- ---- behind a put

module _ (d : Draw) (s : List Pair) (key value : List ℕ) (valid : IsPairs s)
    (valid_behind : IsPairs (put key_cmp key value s)) where
  abbrev made : List Pair
  made = put key_cmp key value s

  has_made : find key_cmp key made ≡ Some value
  has_made = find-put key_cmp nat_list_cmp_total key key value s
      ∙ ap (λ o. cond (is_eq o) (Some value) (find key_cmp key s)) (itself key)

  lower_side : not_above key made ≡ below key s ++ (key, value) ∷ []
  lower_side =
      (has_pair key value made (rising_from_is_sorted key_cmp made valid_behind.sorted) has_made).floor
      ∙ ap (λ xs. xs ++ (key, value) ∷ []) (kept_put (λ k. is_lt (key_cmp k key)) key value s (ap is_lt (itself key)))

  higher_side : above key made ≡ above key s
  higher_side = kept_put (λ k. not (is_le (key_cmp k key))) key value s (ap (λ o. not (is_le o)) (itself key))

  module _ (place : PutPlace) (at : IsPutPlace d s key place) (low : PathEnd) (here : IsPlace d s 0 key low) where
    -- where level 0 alone changes, what leads stays
    leader_stays : place.top ≡ 0 → leader_behind d 0 (not_above key made) ≡ leader_behind d 0 (not_above key s)
    leader_stays lowest = ap (leader_behind d 0) lower_side ∙ elim at.own [
      | inl new ↦
          let none = lacks_pair key s (rising_from_is_sorted key_cmp s valid.sorted) new.lacks in
          leads_none d (below key s) key value (sym new.own ∙ lowest) ∙ ap (leader_behind d 0) (sym none.floor)
      | inr there ↦
          let has = has_pair key there.value s (rising_from_is_sorted key_cmp s valid.sorted) there.has in
          same_leader d (below key s) key value there.value ∙ ap (leader_behind d 0) (sym has.floor)
    ]

    -- and else the key leads a group of its own
    key_leads : 0 < place.top → leader_behind d 0 (not_above key made) ≡ Leader key
    key_leads some = ap (leader_behind d 0) lower_side ∙ elim at.own [
      | inl new ↦ pair_leads d (below key s) (key, value) (lt-ltb 0 (d.level key) (omega (arith, new.own)))
      | inr there ↦ let none = there.lowest in absurd (omega arith)
    ]

    low_behind : (b : Bool) → (place.top == 0) ≡ b → IsKnownGroup d made (cond b (Some low) (leads_own key (Some low)))
    low_behind true e = known_at d made key low valid_behind (record {
      lead = here.lead ∙ sym (leader_stays (zero_from_test place.top e));
      next = here.next ∙ ap (leader_ahead d 0) (sym higher_side);
    })
      where
        zero_from_test : (n : ℕ) → (n == 0) ≡ true → n ≡ 0
        zero_from_test n f = grind (arith, nat_tests)
    low_behind false e =
        let own : PathEnd = record { lead = leads.Key key; next = low.next } in
        known_at d made key own valid_behind (record {
          lead = sym (key_leads (some_from_test place.top e));
          next = here.next ∙ ap (leader_ahead d 0) (sym higher_side);
        })
      where
        some_from_test : (n : ℕ) → (n == 0) ≡ false → 0 < n
        some_from_test n f = grind (arith, nat_tests)

  -- so the place of the key is known
  pub known_by_put : (place : PutPlace) → IsPutPlace d s key place → (known : Option PathEnd) → IsAt d s key known
      → IsKnownGroup d made (behind place.top key known)
  known_by_put place at None here = absurd here
  known_by_put place at (Some low) here = low_behind place at low here (place.top == 0) refl

-- ---- behind a pair that was taken out

module _ (d : Draw) (s : List Pair) (key value : List ℕ) (valid : IsPairs s) (valid_behind : IsPairs (without key s))
    (has : find key_cmp key s ≡ Some value) where
  -- a key of level 0 leaves the group of its place
  pub known_by_take : (known : Option PathEnd) → d.level key ≡ 0 → IsAt d s key known
      → IsKnownGroup d (without key s) known
  known_by_take None lowest at = absurd at
  known_by_take (Some low) lowest at =
      let sides = has_pair key value s (rising_from_is_sorted key_cmp s valid.sorted) has in
      known_at d (without key s) key low valid_behind (record {
        lead = at.lead ∙ ap (leader_behind d 0) sides.floor ∙ leads_none d (below key s) key value lowest
            ∙ ap (leader_behind d 0) (sym (not_above_without key s));
        next = at.next ∙ ap (leader_ahead d 0) (sym (above_without key s));
      })
