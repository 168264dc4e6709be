-- The group of a place in a list of pairs: what leads it, and that the map of the list's pages holds it.
use Rattle.std.proofs.Common.{◌≡◌, ◌⊎◌, inl, inr, ℕ, zero, suc, ◌+◌, ◌-◌, ◌<◌, ◌≤◌, List, [], ◌∷◌, ◌++◌, map, filter}
use Rattle.std.proofs.Common.{Bool, true, false, cond, nat_le, nat_lt, Less, refl, sym, ap, ap₂, subst, ◌∙◌}
use Rattle.std.proofs.Common.{append_assoc, arith, leb-false, ltb-true}
use Rattle.std.specs.List.{AllByRecursion, flat_map, enumerate_from}
use Rattle.std.specs.List.Sorted.{IsStrictlySortedBy}
use Rattle.std.specs.Cmp.{tied_itself}
use Rattle.std.specs.Cmp.Lexicographic.{nat_list_cmp_total}
use Rattle.std.proofs.lemmas.List.{map-append}
use Rattle.std.proofs.lemmas.List.Elements.{filter-append}
use Rattle.std.proofs.lemmas.Grind.{flat_map-append}
use Rattle.store_model.specs.Lists.{runs, cut_before, numbers_below, numbers_from}
use Rattle.store_model.specs.Paths.{key_cmp}
use Rattle.store_model.specs.Draws.{Draw}
use Rattle.store_model.specs.Labels.{Lead, IsLead}
use Rattle.store_model.specs.Labels.Lead.{Start, Leader}
use Rattle.store_model.specs.Pairs.{Pair, IsPair, IsPairs}
use Rattle.store_model.specs.Pages.{Cell, Page, IsPage, cell_on, level_list, leads_group, lead_of, page_room}
use Rattle.store_model.specs.Pages.{group_pages, level_pages, groups, pages_of_pairs}
use Rattle.store_model.specs.PageMaps.{map_of_pages}
use Rattle.store_model.proofs.ListsLemmas.{all_append, all_front, all_back, all_weaker, all_map, all_none, all_flat_map}
use Rattle.store_model.proofs.ListsLemmas.{all_filter, all_numbers_from, all_numbers_below}
use Rattle.store_model.proofs.ListsLemmasCuts as cut_lemmas
use Rattle.store_model.proofs.ListsLemmasCuts.{flat_map-cut_before, all_parts, cut_before_begins, AllButFirst}
use Rattle.store_model.proofs.PagesLemmasOrder.{cell_on-key, cell_cmp, rising_level_list}
use Rattle.store_model.proofs.PagesLemmasSizes.{IsPairList, pages_are_pages}
use Rattle.node_pages.specs.LastPages.{page_of_run}
use Rattle.skip_groups.specs.Groups.{HoldsGroup}
use Rattle.skip_levels.specs.SearchPath.{last_lead, leader_behind}
use Rattle.skip_levels.proofs.Apart.{BeginsAtCut, IsUncut, list_pages, pages_of_group, first_part}
use Rattle.skip_levels.proofs.Around.{IsLed, HasNoCut, last_part, first_cut, pages_around, last_lead-push}
use Rattle.skip_groups.proofs.GroupLookups.{IsOther, Surround, holds_group}
use Rattle.skip_groups.proofs.Sides.{rising_split}

-- ---- what leads the group of a place

filter_none : {A : Type 0} (cuts : A → Bool) (xs : List A)
    → AllByRecursion (λ y. cuts y ≡ false) xs → filter cuts xs ≡ []
filter_none cuts [] h = refl
filter_none cuts (x ∷ xs) h = ap (λ b. cond b (x ∷ filter cuts xs) (filter cuts xs)) h.0 ∙ filter_none cuts xs h.1

filter_led : {A : Type 0} (cuts : A → Bool) (x : A) (xs : List A) → cuts x ≡ true
    → AllByRecursion (λ y. cuts y ≡ false) xs → filter cuts (x ∷ xs) ≡ x ∷ []
filter_led cuts x xs e h = ap (λ b. cond b (x ∷ filter cuts xs) (filter cuts xs)) e
    ∙ ap (λ ys. x ∷ ys) (filter_none cuts xs h)

module _ (d : Draw) (level : ℕ) where
  -- the start leads cells without a cut
  start_leads : (cells : List Cell) → AllByRecursion (λ cell. leads_group d level cell ≡ false) cells
      → lead_of d level cells ≡ Start
  unfolding lead_of
  start_leads [] h = refl
  start_leads (cell ∷ cells) h = ap (λ b. cond b (Leader cell.key) Start) h.0

  pub key_leads : (cell : Cell) (cells : List Cell) → leads_group d level cell ≡ true
      → lead_of d level (cell ∷ cells) ≡ Leader cell.key
  unfolding lead_of
  key_leads cell cells e = ap (λ b. cond b (Leader cell.key) Start) e

  -- the last cut on the lower side leads the group of the place
  lead_by_last_cut : (before part mid : List Cell) → IsUncut (leads_group d level) part
      → IsLed (leads_group d level) part ⊎ ((before ≡ []) × HasNoCut (leads_group d level) part)
      → HasNoCut (leads_group d level) mid
      → lead_of d level (part ++ mid)
      ≡ last_lead (map (λ cell. cell.key) (filter (leads_group d level) (before ++ part)))
  unfolding last_lead
  lead_by_last_cut before [] mid uncut (inl led) none = absurd led
  lead_by_last_cut before (y ∷ part) mid uncut (inl led) none =
      let cuts = leads_group d level in
      key_leads y (part ++ mid) led
      ∙ sym (last_lead-push (map (λ cell. cell.key) (filter cuts before)) y.key)
      ∙ ap last_lead (sym (map-append (λ cell. cell.key) (filter cuts before) (y ∷ []))
      ∙ ap (map (λ cell. cell.key)) (ap (λ ys. filter cuts before ++ ys) (sym (filter_led cuts y part led uncut))
      ∙ sym (filter-append cuts before (y ∷ part))))
  lead_by_last_cut before part mid uncut (inr alone) none =
      let cuts = leads_group d level in
      start_leads (part ++ mid) (all_append (λ cell. cuts cell ≡ false) part mid alone.1 none)
      ∙ sym (ap (λ xs. last_lead (map (λ cell. cell.key) (filter cuts (xs ++ part)))) alone.0
      ∙ ap (λ cells. last_lead (map (λ cell. cell.key) cells)) (filter_none cuts part alone.1))

  -- the cuts of a level's list are the pairs that stand on higher levels
  pub keys_of_cuts : (s : List Pair) → map (λ cell. cell.key) (filter (leads_group d level) (level_list d s level))
      ≡ map (λ pair. pair.0) (filter (λ pair. nat_lt level (d.level pair.0)) s)
  unfolding level_list
  keys_of_cuts [] = refl
  keys_of_cuts (pair ∷ s) = by_tests (keys_of_cuts s) (nat_le level (d.level pair.0))
      (nat_lt level (d.level pair.0)) refl refl
    where
      rest : List Cell
      rest = map (cell_on level) (filter (λ p. nat_le level (d.level p.0)) s)

      by_tests : map (λ cell. cell.key) (filter (leads_group d level) rest)
          ≡ map (λ p. p.0) (filter (λ p. nat_lt level (d.level p.0)) s) → (stays higher : Bool)
          → nat_le level (d.level pair.0) ≡ stays → nat_lt level (d.level pair.0) ≡ higher
          → map (λ cell. cell.key)
          (filter (leads_group d level)
          (map (cell_on level) (cond stays (pair ∷ filter (λ p. nat_le level (d.level p.0)) s)
          (filter (λ p. nat_le level (d.level p.0)) s))))
          ≡ map (λ p. p.0) (cond higher (pair ∷ filter (λ p. nat_lt level (d.level p.0)) s)
          (filter (λ p. nat_lt level (d.level p.0)) s))
      by_tests ih false false e f = ih
      by_tests ih false true e f =
          absurd (omega (arith, leb-false level (d.level pair.0) e, ltb-true level (d.level pair.0) f))
      by_tests ih true higher e f =
          ap (λ k. map (λ cell. cell.key)
          (cond (nat_lt level (d.level k)) (cell_on level pair ∷ filter (leads_group d level) rest)
          (filter (leads_group d level) rest))) (cell_on-key level pair)
          ∙ ap (λ b. map (λ cell. cell.key)
          (cond b (cell_on level pair ∷ filter (leads_group d level) rest) (filter (leads_group d level) rest))) f
          ∙ by_higher higher
        where
          by_higher : (b : Bool) → map (λ cell. cell.key)
              (cond b (cell_on level pair ∷ filter (leads_group d level) rest) (filter (leads_group d level) rest))
              ≡ map (λ p. p.0) (cond b (pair ∷ filter (λ p. nat_lt level (d.level p.0)) s)
              (filter (λ p. nat_lt level (d.level p.0)) s))
          by_higher true = ap₂ (λ k ks. k ∷ ks) (cell_on-key level pair) ih
          by_higher false = ih

-- ---- the leads of other groups

-- the key that leads has P
abbrev LeadHas : (List ℕ → Type 0) → Lead → Type 0
LeadHas P Start = Unit {0}
LeadHas P (Leader key) = P key

-- a key leads
abbrev IsKeyLead : Lead → Type 0
IsKeyLead Start = ⊥
IsKeyLead (Leader key) = Unit {0}

module _ (d : Draw) (level : ℕ) where
  -- the pages of a group have its labels
  pub group_labels : (lead : Lead) (cells : List Cell)
      → AllByRecursion (λ p. (p.label.level ≡ level) × (p.label.lead ≡ lead)) (group_pages level lead cells)
  unfolding group_pages
  group_labels lead cells =
      all_map (λ run. Unit {0}) (λ p. (p.label.level ≡ level) × (p.label.lead ≡ lead))
      (λ run. page_of_run level lead run.0 run.1) (λ run u. (refl, refl))
      (enumerate_from 0 (runs (page_room level) cells))
      (all_none (λ run. Unit {0}) (λ run. tt) (enumerate_from 0 (runs (page_room level) cells)))

  pub levels_of_list : (cells : List Cell) → AllByRecursion (λ p. p.label.level ≡ level) (list_pages d level cells)
  unfolding list_pages
  levels_of_list cells =
      all_flat_map (λ g. Unit {0}) (λ p. p.label.level ≡ level) (pages_of_group d level)
      (λ g u. all_weaker _ _ (λ p h. h.0) (pages_of_group d level g) (group_labels (lead_of d level g) g))
      (cut_before (leads_group d level) cells)
      (all_none (λ g. Unit {0}) (λ g. tt) (cut_before (leads_group d level) cells))

  leads_of_list : (P : Lead → Type 0) (cells : List Cell)
      → AllByRecursion (λ g. P (lead_of d level g)) (cut_before (leads_group d level) cells)
      → AllByRecursion (λ p. P p.label.lead) (list_pages d level cells)
  unfolding list_pages
  leads_of_list P cells h =
      all_flat_map (λ g. P (lead_of d level g)) (λ p. P p.label.lead) (pages_of_group d level)
      (λ g e. all_weaker _ _ (λ p l. subst P (sym l.1) e) (pages_of_group d level g)
      (group_labels (lead_of d level g) g))
      (cut_before (leads_group d level) cells) h

  -- the keys that lead are those of cells
  leads_among : (P : List ℕ → Type 0) (cells : List Cell) → AllByRecursion (λ cell. P cell.key) cells
      → AllByRecursion (λ g. LeadHas P (lead_of d level g)) (cut_before (leads_group d level) cells)
  unfolding lead_of
  leads_among P cells h =
      all_weaker _ _ by_first (cut_before (leads_group d level) cells)
      (all_parts (λ cell. P cell.key) (cut_before (leads_group d level) cells)
      (subst (AllByRecursion (λ cell. P cell.key)) (sym (flat_map-cut_before (leads_group d level) cells)) h))
    where
      by_first : (g : List Cell) → AllByRecursion (λ cell. P cell.key) g → LeadHas P (lead_of d level g)
      by_first [] h = tt
      by_first (cell ∷ g) h = elim (leads_group d level cell) as
          (λ b. LeadHas P (cond b (Leader cell.key) Start)) [ true ↦ h.0 | false ↦ tt ]

  -- behind a cut keys lead
  keys_lead : (cells : List Cell) → BeginsAtCut (leads_group d level) cells
      → AllByRecursion (λ g. IsKeyLead (lead_of d level g)) (cut_before (leads_group d level) cells)
  unfolding cut_before
  keys_lead [] cut = tt
  keys_lead (y ∷ ys) cut =
      let cuts = leads_group d level in
      let first = first_part cuts y (cut_before cuts ys) in
      let begins : AllByRecursion (cut_lemmas.BeginsAtCut cuts) first.1 =
      subst (AllButFirst (cut_lemmas.BeginsAtCut cuts)) first.2 (cut_before_begins cuts (y ∷ ys)) in
      subst (AllByRecursion (λ g. IsKeyLead (lead_of d level g))) (sym first.2)
      (subst IsKeyLead (sym (key_leads d level y first.0 cut)) tt, all_weaker _ _ led first.1 begins)
    where
      led : (g : List Cell) → cut_lemmas.BeginsAtCut (leads_group d level) g → IsKeyLead (lead_of d level g)
      led [] h = absurd h
      led (c ∷ g) h = subst IsKeyLead (sym (key_leads d level c g h)) tt

  -- another key leads these groups
  apart_by_key : (key : List ℕ) (cells : List Cell) → AllByRecursion (λ cell. cell.key ≡ key → ⊥) cells
      → AllByRecursion (λ g. lead_of d level g ≡ Leader key → ⊥) (cut_before (leads_group d level) cells)
  apart_by_key key cells h = all_weaker _ _ (λ g l led. apart (lead_of d level g) l led)
      (cut_before (leads_group d level) cells) (leads_among (λ k. k ≡ key → ⊥) cells h)
    where
      apart : (lead : Lead) → LeadHas (λ k. k ≡ key → ⊥) lead → lead ≡ Leader key → ⊥
      apart Start l e = cc
      apart (Leader k) l e = l (cc)

  -- a key leads these groups
  apart_by_start : (cells : List Cell) → BeginsAtCut (leads_group d level) cells
      → AllByRecursion (λ g. lead_of d level g ≡ Start → ⊥) (cut_before (leads_group d level) cells)
  apart_by_start cells cut = all_weaker _ _ (λ g l led. apart (lead_of d level g) l led)
      (cut_before (leads_group d level) cells) (keys_lead cells cut)
    where
      apart : (lead : Lead) → IsKeyLead lead → lead ≡ Start → ⊥
      apart Start l e = l
      apart (Leader k) l e = cc

  -- pages of groups that this does not lead
  others_by_groups : (lead : Lead) (cells : List Cell)
      → AllByRecursion (λ g. lead_of d level g ≡ lead → ⊥) (cut_before (leads_group d level) cells)
      → AllByRecursion (IsOther level lead) (list_pages d level cells)
  others_by_groups lead cells h = all_weaker _ _ (λ p apart on led. apart led) (list_pages d level cells)
      (leads_of_list (λ l. l ≡ lead → ⊥) cells h)

-- ---- the map holds the group of a place

other_key : (a b : List ℕ) → key_cmp a b ≡ Less → a ≡ b → ⊥
other_key a b less same = let tie = tied_itself nat_list_cmp_total b in cc

-- the numbers before and behind one
numbers_split : (first a b : ℕ) → numbers_from first (a + suc b) ≡ numbers_from first a
    ++ ((first + a) ∷ numbers_from (suc (first + a)) b)
unfolding numbers_from
numbers_split first zero b =
    let here : first + 0 ≡ first = omega arith in
    let count : 0 + suc b ≡ suc b = omega arith in
    ap (numbers_from first) count ∙ ap (λ n. n ∷ numbers_from (suc n) b) (sym here)
numbers_split first (suc a) b =
    let count : suc a + suc b ≡ suc (a + suc b) = omega arith in
    let place : suc first + a ≡ first + suc a = omega arith in
    ap (numbers_from first) count ∙ ap (λ ns. first ∷ ns)
    (numbers_split (suc first) a b ∙ ap (λ n. numbers_from (suc first) a ++ (n ∷ numbers_from (suc n) b)) place)

module _ (d : Draw) (level : ℕ) where
  -- the other groups of the level have other leads
  pub leads_around : (before part mid behind : List Cell) → IsUncut (leads_group d level) part
      → IsLed (leads_group d level) part ⊎ ((before ≡ []) × HasNoCut (leads_group d level) part)
      → HasNoCut (leads_group d level) mid
      → BeginsAtCut (leads_group d level) behind → IsStrictlySortedBy cell_cmp (before ++ ((part ++ mid) ++ behind))
      → AllByRecursion (λ g. lead_of d level g ≡ lead_of d level (part ++ mid) → ⊥)
      (cut_before (leads_group d level) before)
      × AllByRecursion (λ g. lead_of d level g ≡ lead_of d level (part ++ mid) → ⊥)
      (cut_before (leads_group d level) behind)
  unfolding cut_before
  leads_around before [] mid behind uncut (inl led) none next rising = absurd led
  leads_around before (y ∷ part) mid behind uncut (inl led) none next rising =
      let cuts = leads_group d level in
      let sides = rising_split cell_cmp before y ((part ++ mid) ++ behind) rising in
      let low = apart_by_key d level y.key before
      (all_weaker _ _ (λ c less same. other_key c.key y.key less same) before sides.0) in
      let high = apart_by_key d level y.key behind
      (all_weaker _ _ (λ c less same. other_key y.key c.key less (sym same)) behind
      (all_back (λ z. cell_cmp y z ≡ Less) (part ++ mid) behind sides.1)) in
      let lead = key_leads d level y (part ++ mid) led in (
        subst (λ l. AllByRecursion (λ g. lead_of d level g ≡ l → ⊥) (cut_before cuts before))
            (sym lead) low,
        subst (λ l. AllByRecursion (λ g. lead_of d level g ≡ l → ⊥) (cut_before cuts behind))
            (sym lead) high,
      )
  leads_around before part mid behind uncut (inr alone) none next rising =
      let cuts = leads_group d level in
      let lead = start_leads d level (part ++ mid) (all_append (λ cell. cuts cell ≡ false) part mid alone.1 none) in (
        subst (λ xs. AllByRecursion (λ g. lead_of d level g ≡ lead_of d level (part ++ mid) → ⊥) (cut_before cuts xs))
            (sym alone.0) tt,
        subst (λ l. AllByRecursion (λ g. lead_of d level g ≡ l → ⊥) (cut_before cuts behind)) (sym lead)
            (apart_by_start d level behind next),
      )

  -- and so have the other pages
  pub others_around : (before part mid behind : List Cell) → IsUncut (leads_group d level) part
      → IsLed (leads_group d level) part ⊎ ((before ≡ []) × HasNoCut (leads_group d level) part)
      → HasNoCut (leads_group d level) mid
      → BeginsAtCut (leads_group d level) behind → IsStrictlySortedBy cell_cmp (before ++ ((part ++ mid) ++ behind))
      → AllByRecursion (IsOther level (lead_of d level (part ++ mid))) (list_pages d level before)
      × AllByRecursion (IsOther level (lead_of d level (part ++ mid))) (list_pages d level behind)
  others_around before part mid behind uncut begins none next rising =
      let leads = leads_around before part mid behind uncut begins none next rising in
      let lead = lead_of d level (part ++ mid) in
      (others_by_groups d level lead before leads.0, others_by_groups d level lead behind leads.1)

  -- the pages of a level are those of its list
  pub level_is_list : (s : List Pair) → level_pages d s level ≡ list_pages d level (level_list d s level)
  unfolding level_pages groups list_pages
  level_is_list s = refl

  -- the list of a level on two sides of a place
  pub level_list-append : (low high : List Pair)
      → level_list d (low ++ high) level ≡ level_list d low level ++ level_list d high level
  unfolding level_list
  level_list-append low high =
      let stays = λ (pair : Pair). nat_le level (d.level pair.0) in
      ap (map (cell_on level)) (filter-append stays low high)
      ∙ map-append (cell_on level) (filter stays low) (filter stays high)

-- the group of a level in which the place between two sides of a list lies
unfoldable pub group_of_place : Draw → ℕ → List Pair → List Pair → List Cell
group_of_place d level low high = (last_part (leads_group d level) (level_list d low level)).part
    ++ (first_cut (leads_group d level) (level_list d high level)).part

-- the greatest key of the lower side that stands on a higher level leads cells behind its last part, up to the next cut
pub leader_of_parts : (d : Draw) (level : ℕ) (low : List Pair) (cells : List Cell)
    → HasNoCut (leads_group d level) cells
    → lead_of d level ((last_part (leads_group d level) (level_list d low level)).part ++ cells)
    ≡ leader_behind d level low
leader_of_parts d level low cells none =
    let cuts = leads_group d level in
    let l = last_part cuts (level_list d low level) in
    lead_by_last_cut d level l.before l.part cells l.uncut l.begins none
    ∙ ap (λ cells. last_lead (map (λ cell. cell.key) (filter cuts cells))) (sym l.whole)
    ∙ ap last_lead (keys_of_cuts d level low)

-- the greatest key of the lower side that stands on a higher level leads it
pub lead_of_place : (d : Draw) (level : ℕ) (low high : List Pair)
    → lead_of d level (group_of_place d level low high) ≡ leader_behind d level low
unfolding group_of_place
lead_of_place d level low high = leader_of_parts d level low
    (first_cut (leads_group d level) (level_list d high level)).part
    (first_cut (leads_group d level) (level_list d high level)).uncut

module _ (d : Draw) (level : ℕ) where
  -- pages of levels other than this one
  other_level : (lead : Lead) (s : List Pair) (n : ℕ) → (n ≡ level → ⊥)
      → AllByRecursion (IsOther level lead) (level_pages d s n)
  other_level lead s n apart =
      subst (AllByRecursion (IsOther level lead)) (sym (level_is_list d n s))
      (all_weaker (λ p. p.label.level ≡ n) (IsOther level lead) (λ p e on led. apart (sym e ∙ on))
      (list_pages d n (level_list d s n)) (levels_of_list d n (level_list d s n)))

  pub other_levels : (lead : Lead) (s : List Pair) (ns : List ℕ) → AllByRecursion (λ n. n ≡ level → ⊥) ns
      → AllByRecursion (IsOther level lead) (flat_map (level_pages d s) ns)
  other_levels lead s ns h = all_flat_map (λ n. n ≡ level → ⊥) (IsOther level lead) (level_pages d s)
      (λ n apart. other_level lead s n apart) ns h

  -- the keys of a level's list are keys
  keys_valid : (s : List Pair) → IsPairs s → AllByRecursion (λ cell. IsLead (Leader cell.key)) (level_list d s level)
  unfolding level_list
  keys_valid s h =
      let stays = λ (pair : Pair). nat_le level (d.level pair.0) in
      all_map IsPair (λ cell. IsLead (Leader cell.key)) (cell_on level)
      (λ pair p. subst (λ k. IsLead (Leader k)) (sym (cell_on-key level pair)) (p.key_length, p.key_bytes))
      (filter stays s) (all_filter IsPair stays s h.pairs)

  lead_valid : (cells : List Cell) → AllByRecursion (λ cell. IsLead (Leader cell.key)) cells
      → IsLead (lead_of d level cells)
  unfolding lead_of
  lead_valid [] h = tt
  lead_valid (cell ∷ cells) h = elim (leads_group d level cell) as
      (λ b. IsLead (cond b (Leader cell.key) Start)) [ true ↦ h.0 | false ↦ tt ]

-- the pages of a list around a place of a level
pub record Around (d : Draw) (s : List Pair) (level : ℕ) (cells : List Cell) : Type 0 where
  pub front : List Page
  pub back : List Page
  pub pages_are : pages_of_pairs d s ≡ front ++ (group_pages level (lead_of d level cells) cells ++ back)
  pub surround : Surround level (lead_of d level cells) front (group_pages level (lead_of d level cells) cells) back
  pub lead : IsLead (lead_of d level cells)

pub around_place : (d : Draw) (s low high : List Pair) (level : ℕ) → s ≡ low ++ high → IsPairList s → d.height ≤ 256
    → level < d.height → Around d s level (group_of_place d level low high)
unfolding group_of_place pages_of_pairs
around_place d s low high level sides valid low_enough below =
    let cuts = leads_group d level in
    let l = last_part cuts (level_list d low level) in
    let h = first_cut cuts (level_list d high level) in
    let group = pages_of_group d level (l.part ++ h.part) in
    let lower = flat_map (level_pages d s) (numbers_from 0 level) in
    let higher = flat_map (level_pages d s) (numbers_from (suc level) (d.height - suc level)) in
    let here = list_pages d level l.before in
    let there = list_pages d level h.behind in
    let list : level_list d s level ≡ level_list d low level ++ level_list d high level =
    ap (λ xs. level_list d xs level) sides ∙ level_list-append d level low high in
    let level_is : level_pages d s level ≡ here ++ (group ++ there) =
    level_is_list d level s ∙ ap (list_pages d level) list
    ∙ pages_around d level (level_list d low level) (level_list d high level) l h in
    let count : d.height ≡ level + suc (d.height - suc level) = omega arith in
    let from_0 : 0 + level ≡ level = omega arith in
    let numbers : numbers_below d.height ≡ numbers_from 0 level
    ++ (level ∷ numbers_from (suc level) (d.height - suc level)) =
    ap (numbers_from 0) count ∙ numbers_split 0 level (d.height - suc level)
    ∙ ap (λ n. numbers_from 0 level ++ (n ∷ numbers_from (suc n) (d.height - suc level))) from_0 in
    let whole : flat_map (level_pages d s) (numbers_below d.height) ≡ (lower ++ here) ++ (group ++ (there ++ higher)) =
    ap (flat_map (level_pages d s)) numbers ∙ flat_map-append (level_pages d s) (numbers_from 0 level)
    (level ∷ numbers_from (suc level) (d.height - suc level))
    ∙ ap (λ ps. lower ++ (ps ++ higher)) level_is
    ∙ ap (λ ps. lower ++ ps) (append_assoc here (group ++ there) higher
    ∙ ap (λ ps. here ++ ps) (append_assoc group there higher))
    ∙ sym (append_assoc lower here (group ++ (there ++ higher))) in
    let all : AllByRecursion IsPage ((lower ++ here) ++ (group ++ (there ++ higher))) =
    subst (AllByRecursion IsPage) whole (pages_are_pages d s low_enough valid) in
    let behind_all = all_back IsPage (lower ++ here) (group ++ (there ++ higher)) all in
    let cells : level_list d s level ≡ l.before ++ ((l.part ++ h.part) ++ h.behind) =
    list ∙ ap₂ (λ xs ys. xs ++ ys) l.whole h.whole ∙ append_assoc l.before l.part (h.part ++ h.behind)
    ∙ ap (λ ys. l.before ++ ys) (sym (append_assoc l.part h.part h.behind)) in
    let rising = subst (IsStrictlySortedBy cell_cmp) cells (rising_level_list d s level valid.pairs.sorted) in
    let others = others_around d level l.before l.part h.part h.behind l.uncut l.begins h.uncut h.next rising in
    let lead = lead_of d level (l.part ++ h.part) in
    let lowers = all_weaker _ _ (λ n b same. absurd (omega arith)) (numbers_from 0 level) (all_numbers_below 0 level) in
    let highers = all_weaker _ _ (λ n b same. absurd (omega arith)) (numbers_from (suc level) (d.height - suc level))
    (all_numbers_from (suc level) (d.height - suc level)) in
    record {
      front = lower ++ here;
      back = there ++ higher;
      pages_are = whole;
      surround = record {
        front_valid = all_front IsPage (lower ++ here) (group ++ (there ++ higher)) all;
        group_valid = all_front IsPage group (there ++ higher) behind_all;
        back_valid = all_back IsPage group (there ++ higher) behind_all;
        front_others = all_append (IsOther level lead) lower here
            (other_levels d level lead s (numbers_from 0 level) lowers) others.0;
        back_others = all_append (IsOther level lead) there higher
            others.1 (other_levels d level lead s (numbers_from (suc level) (d.height - suc level)) highers);
      };
      lead = lead_valid d level (l.part ++ h.part)
          (all_front (λ cell. IsLead (Leader cell.key))
          (l.part ++ h.part) h.behind (all_back (λ cell. IsLead (Leader cell.key))
          l.before ((l.part ++ h.part) ++ h.behind)
          (subst (AllByRecursion (λ cell. IsLead (Leader cell.key))) cells (keys_valid d level s valid.pairs))));
    }

-- the map of a list's pages holds the group of each place
pub holds_place : (d : Draw) (s low high : List Pair) (level : ℕ) → s ≡ low ++ high → IsPairList s
    → d.height ≤ 256 → level < d.height
    → HoldsGroup (map_of_pages (pages_of_pairs d s)) level (leader_behind d level low) (group_of_place d level low high)
holds_place d s low high level sides valid low_enough below =
    let a = around_place d s low high level sides valid low_enough below in
    subst (λ lead. HoldsGroup (map_of_pages (pages_of_pairs d s)) level lead (group_of_place d level low high))
    (lead_of_place d level low high)
    (subst (λ ps. HoldsGroup (map_of_pages ps) level (lead_of d level (group_of_place d level low high))
    (group_of_place d level low high)) (sym a.pages_are)
    (holds_group level (lead_of d level (group_of_place d level low high))
    (group_of_place d level low high) a.front a.back (omega arith) a.lead a.surround))
