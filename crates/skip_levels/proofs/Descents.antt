-- From level to level on the search path of a key: what a group says of what leads the next.
use Rattle.std.proofs.Common.{◌≡◌, ◌⊎◌, inl, inr, ℕ, suc, ◌+◌, ◌≤◌, List, [], ◌∷◌, ◌++◌, map, filter, Bool, true, false}
use Rattle.std.proofs.Common.{cond, nat_le, nat_lt, Option, Some, None, refl, sym, ap, ap₂, subst, ◌∙◌, arith, take}
use Rattle.std.proofs.Common.{not}
use Rattle.std.specs.List.{AllByRecursion, take_while, prefix_len, slice_get}
use Rattle.std.proofs.lemmas.List.{append-nil}
use Rattle.std.proofs.lemmas.Bool.{le-ltb}
use Rattle.std.proofs.lemmas.Bool.Decides.{nat_tests}
use Rattle.store_model.specs.Draws.{Draw, IsLawful}
use Rattle.store_model.specs.Labels.Lead.{Start, Leader}
use Rattle.store_model.specs.Pairs.{Pair}
use Rattle.store_model.specs.Pages.{Cell, cell_on, level_list, leads_group}
use Rattle.store_model.proofs.ListsLemmas.{all_front, all_back}
use Rattle.store_model.proofs.PagesLemmasOrder.{cell_on-key}
use Rattle.skip_groups.specs.Floors.{is_not_above, last_of, floor_of, after_of, lead_from}
use Rattle.skip_levels.specs.SearchPath.{last_lead, leader_behind, leader_ahead}
use Rattle.skip_levels.proofs.Apart.{BeginsAtCut}
use Rattle.skip_levels.proofs.Around.{IsLed, HasNoCut, LastPart, last_part, first_cut}
use Rattle.skip_levels.proofs.PlaceGroups.{group_of_place, keys_of_cuts}
use Rattle.skip_groups.proofs.Walks.{prefix_past, fails_past}

-- the first key of a higher level above a key: that of the cell found next to it on a level, or else the one found
-- before
abbrev pub key_ahead : Option Cell → Option (List ℕ) → Option (List ℕ)
key_ahead None next = next
key_ahead (Some cell) next = Some cell.key

-- none of these passes
none_pass : (p : Cell → Bool) (cells : List Cell) → AllByRecursion (λ c. p c ≡ false) cells → take_while p cells ≡ []
none_pass p [] h = refl
none_pass p (c ∷ cells) h = ap (λ b. take (cond b (1 + prefix_len p cells) 0) (c ∷ cells)) h.0

-- the last of cells whose last part is not empty
last_in_part : (before part : List Cell) (cell : Cell) → last_of part ≡ Some cell
    → last_lead (map (λ c. c.key) (before ++ part)) ≡ Leader cell.key
unfolding last_of last_lead
last_in_part [] [] cell e = absurd (cc)
last_in_part [] (c ∷ []) cell e = let same : c ≡ cell = cc in ap (λ (x : Cell). Leader x.key) same
last_in_part [] (c ∷ other ∷ part) cell e = last_in_part [] (other ∷ part) cell e
last_in_part (b ∷ []) [] cell e = absurd (cc)
last_in_part (b ∷ []) (c ∷ part) cell e = last_in_part [] (c ∷ part) cell e
last_in_part (b ∷ other ∷ before) part cell e = last_in_part (other ∷ before) part cell e

last_or_none : (cells : List Cell) → (cells ≡ []) ⊎ ((cell : Cell) × (last_of cells ≡ Some cell))
unfolding last_of
last_or_none [] = inl refl
last_or_none (c ∷ []) = inr (c, refl)
last_or_none (c ∷ other ∷ cells) = elim (last_or_none (other ∷ cells)) [ inl e ↦ absurd (cc) | inr found ↦ inr found ]

module _ (d : Draw) (level : ℕ) (key : List ℕ) where
  -- the keys of a level's list are those that stand above the level below
  keys_of_level : (s : List Pair) → map (λ cell. cell.key) (level_list d s (suc level))
      ≡ map (λ pair. pair.0) (filter (λ pair. nat_lt level (d.level pair.0)) s)
  unfolding level_list
  keys_of_level [] = refl
  keys_of_level (pair ∷ s) = by_test (nat_le (suc level) (d.level pair.0)) (nat_lt level (d.level pair.0))
      (same_test level (d.level pair.0)) (keys_of_level s)
    where
      same_test : (m n : ℕ) → nat_le (suc m) n ≡ nat_lt m n
      same_test m n = grind (arith, nat_tests)

      by_test : (a b : Bool) → a ≡ b
          → map (λ cell. cell.key) (map (cell_on (suc level)) (filter (λ p. nat_le (suc level) (d.level p.0)) s))
          ≡ map (λ p. p.0) (filter (λ p. nat_lt level (d.level p.0)) s)
          → map (λ cell. cell.key)
          (map (cell_on (suc level))
          (cond a (pair ∷ filter (λ p. nat_le (suc level) (d.level p.0)) s)
          (filter (λ p. nat_le (suc level) (d.level p.0)) s)))
          ≡ map (λ p. p.0) (cond b (pair ∷ filter (λ p. nat_lt level (d.level p.0)) s)
          (filter (λ p. nat_lt level (d.level p.0)) s))
      by_test true true e rest = ap₂ (λ k ks. k ∷ ks) (cell_on-key (suc level) pair) rest
      by_test false false e rest = rest
      by_test true false e rest = absurd (cc)
      by_test false true e rest = absurd (cc)

-- the cells of the group of a place are not above the key before the place, and above it behind
group_sides : (d : Draw) (level : ℕ) (key : List ℕ) (low high : List Pair)
    → AllByRecursion (λ c. is_not_above key c ≡ true) (level_list d low level)
    → AllByRecursion (λ c. is_not_above key c ≡ false) (level_list d high level)
    → AllByRecursion (λ c. is_not_above key c ≡ true) (last_part (leads_group d level) (level_list d low level)).part
    × AllByRecursion (λ c. is_not_above key c ≡ false)
    (first_cut (leads_group d level) (level_list d high level)).part
group_sides d level key low high passes fails =
    let l = last_part (leads_group d level) (level_list d low level) in
    let h = first_cut (leads_group d level) (level_list d high level) in
    let p = is_not_above key in (
      all_back (λ c. p c ≡ true) l.before l.part (subst (AllByRecursion (λ c. p c ≡ true)) l.whole passes),
      all_front (λ c. p c ≡ false) h.part h.behind (subst (AllByRecursion (λ c. p c ≡ false)) h.whole fails),
    )

-- the floor of the group of a place is the last cell of the lower side
pub floor_of_place : (d : Draw) (level : ℕ) (key : List ℕ) (low high : List Pair)
    → AllByRecursion (λ c. is_not_above key c ≡ true) (level_list d low level)
    → AllByRecursion (λ c. is_not_above key c ≡ false) (level_list d high level)
    → floor_of key (group_of_place d level low high)
    ≡ last_of (last_part (leads_group d level) (level_list d low level)).part
unfolding group_of_place
floor_of_place d level key low high passes fails =
    let low_part = (last_part (leads_group d level) (level_list d low level)).part in
    let high_part = (first_cut (leads_group d level) (level_list d high level)).part in
    let sides = group_sides d level key low high passes fails in
    ap last_of (prefix_past (is_not_above key) low_part high_part sides.0
    ∙ ap (λ cells. low_part ++ cells) (none_pass (is_not_above key) high_part sides.1) ∙ append-nil low_part)

-- what leads the next group behind a place: the last cell of the lower side of this one, or else what leads this one
pub lead_of_last_part : (d : Draw) (level : ℕ) (low : List Pair)
    → leader_behind d level low
    ≡ lead_from (last_of (last_part (leads_group d (suc level)) (level_list d low (suc level))).part)
    (leader_behind d (suc level) low)
unfolding last_of last_lead
lead_of_last_part d level low =
    let l = last_part (leads_group d (suc level)) (level_list d low (suc level)) in
    ap last_lead (sym (keys_of_level d level [] low)) ∙ by_last l (last_or_none l.part)
  where
    none_before : (l : LastPart (leads_group d (suc level)) (level_list d low (suc level))) → l.part ≡ []
        → level_list d low (suc level) ≡ []
    none_before l e = elim l.begins [
      | inl led ↦ absurd (subst (IsLed (leads_group d (suc level))) e led)
      | inr alone ↦ l.whole ∙ ap₂ (λ xs ys. xs ++ ys) alone.0 e
    ]

    by_last : (l : LastPart (leads_group d (suc level)) (level_list d low (suc level)))
        → (l.part ≡ []) ⊎ ((cell : Cell) × (last_of l.part ≡ Some cell))
        → last_lead (map (λ c. c.key) (level_list d low (suc level)))
        ≡ lead_from (last_of l.part) (leader_behind d (suc level) low)
    by_last l (inl e) =
        let none = none_before l e in
        ap (λ cells. last_lead (map (λ c. c.key) cells)) none
        ∙ sym (ap (λ cells. last_lead (map (λ c. c.key) (filter (leads_group d (suc level)) cells))) none)
        ∙ ap last_lead (keys_of_cuts d (suc level) low)
        ∙ sym (ap (λ cells. lead_from (last_of cells) (leader_behind d (suc level) low)) e)
    by_last l (inr found) =
        ap (λ cells. last_lead (map (λ c. c.key) cells)) l.whole ∙ last_in_part l.before l.part found.0 found.1
        ∙ sym (ap (λ o. lead_from o (leader_behind d (suc level) low)) found.1)

-- what leads the next group
pub next_lead : (d : Draw) (level : ℕ) (key : List ℕ) (low high : List Pair)
    → AllByRecursion (λ c. is_not_above key c ≡ true) (level_list d low (suc level))
    → AllByRecursion (λ c. is_not_above key c ≡ false) (level_list d high (suc level))
    → leader_behind d level low ≡ lead_from (floor_of key (group_of_place d (suc level) low high))
    (leader_behind d (suc level) low)
next_lead d level key low high passes fails = lead_of_last_part d level low
    ∙ ap (λ o. lead_from o (leader_behind d (suc level) low))
    (sym (floor_of_place d (suc level) key low high passes fails))

-- the cell next to the key in the group of a place is the first of the higher side, up to the next group
pub after_of_place : (d : Draw) (level : ℕ) (key : List ℕ) (low high : List Pair)
    → AllByRecursion (λ c. is_not_above key c ≡ true) (level_list d low level)
    → AllByRecursion (λ c. is_not_above key c ≡ false) (level_list d high level)
    → after_of key (group_of_place d level low high)
    ≡ slice_get (first_cut (leads_group d level) (level_list d high level)).part 0
unfolding group_of_place
after_of_place d level key low high passes fails =
    let low_part = (last_part (leads_group d level) (level_list d low level)).part in
    let high_part = (first_cut (leads_group d level) (level_list d high level)).part in
    let sides = group_sides d level key low high passes fails in
    fails_past (is_not_above key) low_part high_part sides.0 ∙ first_of_all high_part sides.1
  where
    first_of_all : (cells : List Cell) → AllByRecursion (λ c. is_not_above key c ≡ false) cells
        → after_of key cells ≡ slice_get cells 0
    first_of_all [] h = refl
    first_of_all (c ∷ cells) h = ap (λ b. cond (not b) (Some c) (after_of key cells)) h.0

-- the first key above that leads a group of the next level
pub next_ahead : (d : Draw) (level : ℕ) (key : List ℕ) (low high : List Pair)
    → AllByRecursion (λ c. is_not_above key c ≡ true) (level_list d low (suc level))
    → AllByRecursion (λ c. is_not_above key c ≡ false) (level_list d high (suc level))
    → leader_ahead d level high ≡ key_ahead (after_of key (group_of_place d (suc level) low high))
    (leader_ahead d (suc level) high)
next_ahead d level key low high passes fails =
    let h = first_cut cuts (level_list d high (suc level)) in
    ap (λ keys. slice_get keys 0) (sym (keys_of_level d level key high))
    ∙ ap (λ cells. slice_get (map (λ c. c.key) cells) 0) h.whole
    ∙ by_part h.part h.behind h.uncut h.next (ap (filter cuts) h.whole)
    ∙ ap (λ o. key_ahead o (leader_ahead d (suc level) high))
    (sym (after_of_place d (suc level) key low high passes fails))
  where
    cuts : Cell → Bool
    cuts = leads_group d (suc level)

    -- what leads ahead is the first cut
    ahead : (cells : List Cell) → filter (leads_group d (suc level)) (level_list d high (suc level)) ≡ cells
        → slice_get (map (λ c. c.key) cells) 0 ≡ leader_ahead d (suc level) high
    ahead cells is = ap (λ xs. slice_get (map (λ c. c.key) xs) 0) (sym is)
        ∙ ap (λ keys. slice_get keys 0) (keys_of_cuts d (suc level) high)

    by_part : (part behind : List Cell) → HasNoCut (leads_group d (suc level)) part
        → BeginsAtCut (leads_group d (suc level)) behind
        → filter (leads_group d (suc level)) (level_list d high (suc level))
        ≡ filter (leads_group d (suc level)) (part ++ behind)
        → slice_get (map (λ c. c.key) (part ++ behind)) 0
        ≡ key_ahead (slice_get part 0) (leader_ahead d (suc level) high)
    by_part (c ∷ part) behind uncut next is = refl
    by_part [] [] uncut next is = ahead [] is
    by_part [] (b ∷ behind) uncut next is =
        ahead (b ∷ filter (leads_group d (suc level)) behind)
        (is ∙ ap (λ t. cond t (b ∷ filter (leads_group d (suc level)) behind)
        (filter (leads_group d (suc level)) behind)) next)

-- no key stands above the highest level
none_higher : (d : Draw) (level : ℕ) → IsLawful d → d.height ≤ suc level → (xs : List Pair)
    → filter (λ pair. nat_lt level (d.level pair.0)) xs ≡ []
none_higher d level lawful high [] = refl
none_higher d level lawful high (pair ∷ xs) =
    let low = lawful.level_in_range pair.0 in
    ap (λ b. cond b (pair ∷ filter (λ p. nat_lt level (d.level p.0)) xs) (filter (λ p. nat_lt level (d.level p.0)) xs))
    (le-ltb level (d.level pair.0) (omega arith)) ∙ none_higher d level lawful high xs

-- the start leads there, and no group follows
pub start_leads_highest : (d : Draw) (level : ℕ) (s : List Pair) → IsLawful d → d.height ≤ suc level
    → leader_behind d level s ≡ Start
unfolding last_lead
start_leads_highest d level s lawful high =
    ap (λ keys. last_lead keys) (ap (map (λ pair. pair.0)) (none_higher d level lawful high s))

pub none_ahead_highest : (d : Draw) (level : ℕ) (s : List Pair) → IsLawful d → d.height ≤ suc level
    → leader_ahead d level s ≡ None
none_ahead_highest d level s lawful high =
    ap (λ xs. slice_get (map (λ (pair : Pair). pair.0) xs) 0) (none_higher d level lawful high s)
