-- The first pair from a key on: the key's own, or the first above it, which lies in the group of the place or leads
-- the next.
use Rattle.std.proofs.Common.{◌≡◌, ◌⊎◌, inl, inr, ℕ, List, [], ◌∷◌, ◌++◌, map, filter, true, false, not, cond, nat_lt}
use Rattle.std.proofs.Common.{Option, Some, None, Less, Equal, Greater, refl, sym, ap, subst, ◌∙◌}
use Rattle.std.specs.Ordering.{is_le, is_eq}
use Rattle.std.specs.Option.{option_or}
use Rattle.std.specs.List.{slice_get}
use Rattle.std.specs.List.Sorted.{IsStrictlySortedBy}
use Rattle.std.proofs.lemmas.List.{map-append}
use Rattle.std.proofs.lemmas.List.Elements.{filter-append}
use Rattle.store_model.specs.Paths.{key_cmp}
use Rattle.store_model.specs.Draws.{Draw}
use Rattle.store_model.specs.Labels.Lead.{Leader}
use Rattle.store_model.specs.Pairs.{Pair}
use Rattle.store_model.specs.Pages.{Cell, cell_on, level_list, leads_group}
use Rattle.store_model.proofs.ListsLemmas.{all_weaker, rising_head, rising_tail}
use Rattle.node_pages.proofs.PlaceLemmas.{same_key, reversed}
use Rattle.skip_groups.specs.Floors.{last_of, pair_in, pair_at}
use Rattle.ordered_pairs.specs.PairsState.{next_pair}
use Rattle.skip_levels.specs.SearchPath.{not_above, above, last_lead, leader_behind, leader_ahead}
use Rattle.skip_levels.proofs.Apart.{BeginsAtCut}
use Rattle.skip_levels.proofs.Around.{last_part, first_cut, part_of_last, last_lead-push}
use Rattle.skip_levels.proofs.Found.{cells_of_all}
use Rattle.skip_levels.proofs.PathLemmas.{none_below, all_above, stays_above}
use Rattle.skip_levels.proofs.PlaceGroups.{group_of_place, level_list-append}

-- the last of cells with one more in front
pair_past : (key : List ℕ) (cell : Cell) (cells : List Cell) → is_eq (key_cmp key cell.key) ≡ false
    → pair_at key (last_of (cell ∷ cells)) ≡ pair_at key (last_of cells)
unfolding last_of
pair_past key cell [] other = ap (λ b. cond b (pair_in (Some cell)) None) other
pair_past key cell (c ∷ cells) other = refl

-- the next pair is the key's own, or the first above it
pub next_of_sides : (key : List ℕ) (s : List Pair) → IsStrictlySortedBy (λ a b. key_cmp a.0 b.0) s
    → next_pair key s ≡ option_or (pair_at key (last_of (map (cell_on 0) (not_above key s))))
    (slice_get (above key s) 0)
unfolding last_of
next_of_sides key [] rising = refl
next_of_sides key (e ∷ s) rising =
    let rest = next_of_sides key s (rising_tail (λ (a b : Pair). key_cmp a.0 b.0) e s rising) in
    let head = rising_head (λ (a b : Pair). key_cmp a.0 b.0) e s rising in
    let answer = λ (low high : List Pair). option_or (pair_at key (last_of (map (cell_on 0) low))) (slice_get high 0) in
    elim (key_cmp key e.0) as (λ o. key_cmp key e.0 ≡ o
    → next_pair key (e ∷ s) ≡ answer (not_above key (e ∷ s)) (above key (e ∷ s))) [
      | Less ↦ λ less.
          let higher : is_le (key_cmp e.0 key) ≡ false = ap is_le (reversed key e.0 Less less) in
          let fails = all_weaker (λ (f : Pair). key_cmp e.0 f.0 ≡ Less) (λ f. is_le (key_cmp f.0 key) ≡ false)
          (λ f after. stays_above e.0 f.0 key after higher) s head in
          ap (λ o. cond (is_le o) (Some e) (next_pair key s)) less
          ∙ sym (ap (λ low. answer low (above key (e ∷ s))) (none_below key (e ∷ s) (higher, fails))
          ∙ ap (answer []) (all_above key (e ∷ s) (higher, fails)))
      | Equal ↦ λ equal.
          let here : is_le (key_cmp e.0 key) ≡ true = ap is_le (reversed key e.0 Equal equal) in
          let fails = all_weaker (λ (f : Pair). key_cmp e.0 f.0 ≡ Less) (λ f. is_le (key_cmp f.0 key) ≡ false)
          (λ f less. ap is_le (reversed key f.0 Less
          (subst (λ k. key_cmp k f.0 ≡ Less) (sym (same_key key e.0 equal)) less))) s head in
          ap (λ o. cond (is_le o) (Some e) (next_pair key s)) equal
          ∙ sym (ap (λ b. answer (cond b (e ∷ not_above key s) (not_above key s)) (above key (e ∷ s))) here
          ∙ ap (λ low. answer (e ∷ low) (above key (e ∷ s))) (none_below key s fails)
          ∙ ap (λ o. option_or (cond (is_eq o) (Some e) None) (slice_get (above key (e ∷ s)) 0)) equal)
      | Greater ↦ λ greater.
          let lower : is_le (key_cmp e.0 key) ≡ true = ap is_le (reversed key e.0 Greater greater) in
          ap (λ o. cond (is_le o) (Some e) (next_pair key s)) greater ∙ rest
          ∙ sym (ap (λ b. answer (cond b (e ∷ not_above key s) (not_above key s))
          (cond (not b) (e ∷ above key s) (above key s))) lower
          ∙ ap (λ o. option_or o (slice_get (above key s) 0))
          (pair_past key (cell_on 0 e) (map (cell_on 0) (not_above key s)) (ap is_eq greater)))
    ] refl

-- ---- the pair that leads the next group

-- the pairs begin with one that leads a group of level 0
record LeadsOff (d : Draw) (high : List Pair) : Type 0 where
  pair : Pair
  rest : List Pair
  high_is : high ≡ pair ∷ rest
  leads : leads_group d 0 (cell_on 0 pair) ≡ true

module _ (d : Draw) where
  -- a pair that leads the next group is the first that stands on a higher level
  ahead_is : (high : List Pair) (l : LeadsOff d high) → leader_ahead d 0 high ≡ Some l.pair.0
  ahead_is high l =
      ap (leader_ahead d 0) l.high_is
      ∙ ap (λ b. slice_get (map (λ (p : Pair). p.0)
      (cond b (l.pair ∷ filter (λ p. nat_lt 0 (d.level p.0)) l.rest) (filter (λ p. nat_lt 0 (d.level p.0)) l.rest)))
      0) l.leads

  -- the first of the higher side lies in the group of the place, or leads the next
  first_ahead : (high : List Pair) (part behind : List Cell) → map (cell_on 0) high ≡ part ++ behind
      → BeginsAtCut (leads_group d 0) behind
      → (pair_in (slice_get part 0) ≡ slice_get high 0) ⊎ (LeadsOff d high × (part ≡ []))
  first_ahead [] [] behind whole next = inl refl
  first_ahead [] (c ∷ part) behind whole next = absurd (cc)
  first_ahead (e ∷ high) (c ∷ part) behind whole next =
      let same : cell_on 0 e ≡ c = ap (λ cells. head_or (cell_on 0 e) cells) whole
      in inl (ap (λ (x : Cell). pair_in (Some x)) (sym same))
    where
      head_or : Cell → List Cell → Cell
      head_or other [] = other
      head_or other (x ∷ xs) = x
  first_ahead (e ∷ high) [] [] whole next = absurd (cc)
  first_ahead (e ∷ high) [] (b ∷ behind) whole next =
      let same : cell_on 0 e ≡ b = ap (λ cells. head_or (cell_on 0 e) cells) whole in
      inr (record { pair = e; rest = high; high_is = refl; leads = ap (leads_group d 0) same ∙ next }, refl)
    where
      head_or : Cell → List Cell → Cell
      head_or other [] = other
      head_or other (x ∷ xs) = x

  -- so the group behind such a pair begins with it
  pub group_begins : (low rest : List Pair) (e : Pair) → leads_group d 0 (cell_on 0 e) ≡ true
      → slice_get (group_of_place d 0 (low ++ e ∷ []) rest) 0 ≡ Some (cell_on 0 e)
  unfolding group_of_place
  group_begins low rest e leads =
      let cuts = leads_group d 0 in
      let cells : level_list d (low ++ e ∷ []) 0 ≡ level_list d low 0 ++ cell_on 0 e ∷ [] =
      level_list-append d 0 low (e ∷ []) ∙ ap (λ xs. level_list d low 0 ++ xs) (cells_of_all d (e ∷ [])) in
      ap (λ part. slice_get (part ++ (first_cut cuts (level_list d rest 0)).part) 0)
      (ap (λ xs. (last_part cuts xs).part) cells ∙ part_of_last cuts (cell_on 0 e) leads (level_list d low 0))

  -- and it leads the group
  pub pair_leads : (low : List Pair) (e : Pair) → leads_group d 0 (cell_on 0 e) ≡ true
      → leader_behind d 0 (low ++ e ∷ []) ≡ Leader e.0
  pair_leads low e leads =
      let stays = λ (pair : Pair). nat_lt 0 (d.level pair.0) in
      let keys : map (λ (pair : Pair). pair.0) (filter stays (low ++ e ∷ []))
      ≡ map (λ (pair : Pair). pair.0) (filter stays low) ++ e.0 ∷ [] =
      ap (map (λ (pair : Pair). pair.0)) (filter-append stays low (e ∷ [])
      ∙ ap (λ b. filter stays low ++ cond b (e ∷ []) []) leads)
      ∙ map-append (λ (pair : Pair). pair.0) (filter stays low) (e ∷ []) in
      ap last_lead keys ∙ last_lead-push (map (λ (pair : Pair). pair.0) (filter stays low)) e.0

-- ---- what the search answers

module _ (d : Draw) (high : List Pair) (own : Option Pair) where
  abbrev pub part_ahead : List Cell
  part_ahead = (first_cut (leads_group d 0) (level_list d high 0)).part

  abbrev here : Option Pair
  here = option_or own (pair_in (slice_get part_ahead 0))

  ahead_cases : (pair_in (slice_get part_ahead 0) ≡ slice_get high 0) ⊎ (LeadsOff d high × (part_ahead ≡ []))
  ahead_cases = let h = first_cut (leads_group d 0) (level_list d high 0)
      in first_ahead d high h.part h.behind (sym (cells_of_all d high) ∙ h.whole) h.next

  -- no group follows
  pub no_group_follows : leader_ahead d 0 high ≡ None → here ≡ option_or own (slice_get high 0)
  no_group_follows none = elim ahead_cases [
    | inl same ↦ ap (option_or own) same
    | inr led ↦ let some = sym none ∙ ahead_is d high led.0 in absurd (cc)
  ]

  -- the pair lies in the group
  pub pair_in_group : (pair : Pair) → here ≡ Some pair → here ≡ option_or own (slice_get high 0)
  pair_in_group pair some = elim ahead_cases [
    | inl same ↦ ap (option_or own) same
    | inr led ↦ by_own own (ap (λ cells. option_or own (pair_in (slice_get cells 0))) (sym led.1) ∙ some)
        (ap (λ cells. option_or own (pair_in (slice_get cells 0))) led.1)
  ]
    where
      by_own : (o : Option Pair) → option_or o None ≡ Some pair → here ≡ option_or o None
          → here ≡ option_or o (slice_get high 0)
      by_own None e is = absurd (cc)
      by_own (Some x) e is = is

  -- the pair leads the next group
  pub record Follows (leader : List ℕ) : Type 0 where
    pub pair : Pair
    pub rest : List Pair
    pub high_is : high ≡ pair ∷ rest
    pub leads : leads_group d 0 (cell_on 0 pair) ≡ true
    pub leader_is : leader ≡ pair.0
    pub answer : option_or own (slice_get high 0) ≡ Some pair

  pub group_follows : (leader : List ℕ) → Some leader ≡ leader_ahead d 0 high → here ≡ None → Follows leader
  group_follows leader ahead none = elim ahead_cases [
    | inl same ↦
        let nothing : option_or own (slice_get high 0) ≡ None = sym (ap (option_or own) same) ∙ none in
        absurd (no_high high own nothing (ahead))
    | inr led ↦ record {
      pair = led.0.pair;
      rest = led.0.rest;
      high_is = led.0.high_is;
      leads = led.0.leads;
      leader_is = let same = ahead ∙ ahead_is d high led.0 in some_same leader led.0.pair.0 same;
      answer = no_own own (pair_in (slice_get part_ahead 0)) none ∙ ap (λ xs. slice_get xs 0) led.0.high_is;
    }
  ]
    where
      some_same : (a b : List ℕ) → Some a ≡ Some b → a ≡ b
      some_same a b e = cc

      no_high : (xs : List Pair) (o : Option Pair) → option_or o (slice_get xs 0) ≡ None
          → Some leader ≡ leader_ahead d 0 xs → ⊥
      no_high [] o e f = cc
      no_high (x ∷ xs) None e f = cc
      no_high (x ∷ xs) (Some y) e f = cc

      no_own : (o other : Option Pair) → option_or o other ≡ None → option_or o (slice_get high 0) ≡ slice_get high 0
      no_own None other e = refl
      no_own (Some x) other e = absurd (cc)
