-- How far a level is read where a list is read up to a pair, and which cell is next there.
use Rattle.std.proofs.Common.{◌≡◌, ◌⊎◌, inl, inr, ℕ, ◌<◌, ◌≤◌, List, [], ◌∷◌, ◌++◌, map, filter, length, Bool}
use Rattle.std.proofs.Common.{true, false, cond, nat_lt, Some, None, refl, sym, ap, ◌∙◌, arith}
use Rattle.std.proofs.Common.{lt-ltb, append-nil}
use Rattle.std.specs.List.{slice_get}
use Rattle.std.proofs.lemmas.Bool.{le-ltb}
use Rattle.std.proofs.lemmas.List.{map-append, length-append}
use Rattle.std.proofs.lemmas.List.Elements.{filter-append}
use Rattle.store_model.specs.Lists.{cut_before}
use Rattle.store_model.specs.Draws.{Draw}
use Rattle.store_model.specs.Labels.Lead.{Leader}
use Rattle.store_model.specs.Pairs.{Pair}
use Rattle.store_model.specs.Pages.{Cell, cell_on, level_list, leads_group, groups}
use Rattle.store_model.proofs.PagesLemmasOrder.{cell_on-key}
use Rattle.store_model.proofs.PagesLemmasSplits.{level_list-there}
use Rattle.layout_scratch.specs.Counting.{last_length}
use Rattle.skip_levels.specs.SearchPath.{last_lead, leader_behind}
use Rattle.skip_levels.proofs.Apart.{BeginsAtCut, IsUncut, cut_apart, one_part}
use Rattle.skip_levels.proofs.Around.{IsLed, HasNoCut, last_part, first_cut, last_lead-push}
use Rattle.skip_levels.proofs.PathLemmas.{few_in_group}
use Rattle.skip_levels.proofs.PlaceGroups.{group_of_place}

-- ---- how many cells the last group has

last_length-behind : (parts : List (List Cell)) (part : List Cell) → last_length (parts ++ part ∷ []) ≡ length part
unfolding last_length
last_length-behind [] part = refl
last_length-behind (p ∷ []) part = refl
last_length-behind (p ∷ q ∷ parts) part = last_length-behind (q ∷ parts) part

pub length_of_last : (cuts : Cell → Bool) (xs : List Cell)
    → last_length (cut_before cuts xs) ≡ length (last_part cuts xs).part
unfolding last_length cut_before
length_of_last cuts xs = let l = last_part cuts xs in by_begins l.before l.part l.whole l.uncut l.begins
  where
    by_begins : (before part : List Cell) → xs ≡ before ++ part → IsUncut cuts part
        → IsLed cuts part ⊎ ((before ≡ []) × HasNoCut cuts part) → last_length (cut_before cuts xs) ≡ length part
    by_begins before [] whole uncut (inl led) = absurd led
    by_begins before [] whole uncut (inr none) =
        ap (λ ys. last_length (cut_before cuts ys)) (whole ∙ ap (λ ys. ys ++ []) none.0)
    by_begins before (y ∷ part) whole uncut (inl led) =
        ap (λ ys. last_length (cut_before cuts ys)) whole
        ∙ ap last_length (cut_apart cuts before (y ∷ part) led
        ∙ ap (λ ps. cut_before cuts before ++ ps) (one_part cuts y part uncut))
        ∙ last_length-behind (cut_before cuts before) (y ∷ part)
    by_begins before (y ∷ part) whole uncut (inr none) =
        ap (λ ys. last_length (cut_before cuts ys)) (whole ∙ ap (λ ys. ys ++ (y ∷ part)) none.0)
        ∙ ap last_length (one_part cuts y part uncut)

-- ---- the cell behind those of the last group

slice_get-behind : {X : Type 0} (xs ys : List X) → slice_get (xs ++ ys) (length xs) ≡ slice_get ys 0
slice_get-behind [] ys = refl
slice_get-behind (x ∷ xs) ys = slice_get-behind xs ys

-- the cells of the group that are not passed
abbrev pub ahead : Draw → ℕ → List Pair → List Cell
ahead d level left = (first_cut (leads_group d level) (level_list d left level)).part

pub next_of_group : (d : Draw) (level : ℕ) (passed left : List Pair)
    → slice_get (group_of_place d level passed left) (last_length (groups d passed level))
    ≡ slice_get (ahead d level left) 0
unfolding group_of_place groups
next_of_group d level passed left =
    let part = (last_part (leads_group d level) (level_list d passed level)).part in
    ap (slice_get (part ++ ahead d level left)) (length_of_last (leads_group d level) (level_list d passed level))
    ∙ slice_get-behind part (ahead d level left)

-- no group has more cells than there are pairs
pub few_read : (d : Draw) (level : ℕ) (passed : List Pair) → last_length (groups d passed level) ≤ length passed
unfolding group_of_place groups
few_read d level passed =
    let part = (last_part (leads_group d level) (level_list d passed level)).part in
    omega (
      arith,
      length_of_last (leads_group d level) (level_list d passed level),
      few_in_group d level passed [],
      length-append part (ahead d level []),
      ap length (append-nil passed),
    )

module _ (cuts : Cell → Bool) where
  none_of_none : (part behind : List Cell) → [] ≡ part ++ behind → part ≡ []
  none_of_none [] behind e = refl
  none_of_none (p ∷ part) behind e = absurd (cc)

  none_before_cut : (x : Cell) (xs part behind : List Cell) → x ∷ xs ≡ part ++ behind → cuts x ≡ true
      → HasNoCut cuts part → part ≡ []
  none_before_cut x xs [] behind e cut uncut = refl
  none_before_cut x xs (p ∷ part) behind e cut uncut =
      let same : Some x ≡ Some p = ap (λ ys. slice_get ys 0) e in
      let fails : cuts p ≡ false = uncut.0 in
      absurd (wrong x p same cut fails)
    where
      wrong : (a b : Cell) → Some a ≡ Some b → cuts a ≡ true → cuts b ≡ false → ⊥
      wrong a b same cut uncut = cc

  first_uncut : (x : Cell) (xs part behind : List Cell) → x ∷ xs ≡ part ++ behind → cuts x ≡ false
      → BeginsAtCut cuts behind → slice_get part 0 ≡ Some x
  first_uncut x xs [] [] e uncut next = absurd (cc)
  first_uncut x xs [] (b ∷ behind) e uncut next =
      let same : Some x ≡ Some b = ap (λ ys. slice_get ys 0) e in
      absurd (wrong x b same uncut next)
    where
      wrong : (a b : Cell) → Some a ≡ Some b → cuts a ≡ false → cuts b ≡ true → ⊥
      wrong a b same uncut cut = cc
  first_uncut x xs (p ∷ part) behind e uncut next = sym (ap (λ ys. slice_get ys 0) e)

module _ (d : Draw) (level : ℕ) where
  -- no cell is ahead where no pair is left
  pub none_ahead : slice_get (ahead d level []) 0 ≡ None
  unfolding level_list
  none_ahead =
      let h = first_cut (leads_group d level) (level_list d [] level) in
      ap (λ cells. slice_get cells 0) (none_of_none (leads_group d level) h.part h.behind h.whole)

  leads_by_level : (e : Pair) → leads_group d level (cell_on level e) ≡ nat_lt level (d.level e.0)
  leads_by_level e = ap (λ k. nat_lt level (d.level k)) (cell_on-key level e)

  -- nor where the next pair leads the next group
  pub none_before_leader : (e : Pair) (rest : List Pair) → level < d.level e.0
      → slice_get (ahead d level (e ∷ rest)) 0 ≡ None
  none_before_leader e rest high =
      let h = first_cut (leads_group d level) (level_list d (e ∷ rest) level) in
      ap (λ cells. slice_get cells 0) (none_before_cut (leads_group d level) (cell_on level e) (level_list d rest level)
      h.part h.behind (sym (level_list-there d e rest level (omega arith)) ∙ h.whole)
      (leads_by_level e ∙ lt-ltb level (d.level e.0) high) h.uncut)

  -- and where its key stands on this level and no higher one, its cell is
  pub cell_ahead : (e : Pair) (rest : List Pair) → level ≡ d.level e.0
      → slice_get (ahead d level (e ∷ rest)) 0 ≡ Some (cell_on level e)
  cell_ahead e rest own =
      let h = first_cut (leads_group d level) (level_list d (e ∷ rest) level) in
      first_uncut (leads_group d level) (cell_on level e) (level_list d rest level) h.part h.behind
      (sym (level_list-there d e rest level (omega (arith, own))) ∙ h.whole)
      (leads_by_level e ∙ le-ltb level (d.level e.0) (omega (arith, own))) h.next

  -- ---- one pair more

  abbrev stands_higher : Pair → Bool
  stands_higher pair = nat_lt level (d.level pair.0)

  pub leader_more : (passed : List Pair) (e : Pair) → level < d.level e.0
      → leader_behind d level (passed ++ e ∷ []) ≡ Leader e.0
  leader_more passed e high =
      let keys : map (λ (pair : Pair). pair.0) (filter stands_higher (passed ++ e ∷ []))
      ≡ map (λ (pair : Pair). pair.0) (filter stands_higher passed) ++ e.0 ∷ [] =
      ap (map (λ (pair : Pair). pair.0)) (filter-append stands_higher passed (e ∷ [])
      ∙ ap (λ b. filter stands_higher passed ++ cond b (e ∷ []) []) (lt-ltb level (d.level e.0) high))
      ∙ map-append (λ (pair : Pair). pair.0) (filter stands_higher passed) (e ∷ []) in
      ap last_lead keys ∙ last_lead-push (map (λ (pair : Pair). pair.0) (filter stands_higher passed)) e.0

  pub leader_same : (passed : List Pair) (e : Pair) → d.level e.0 ≤ level
      → leader_behind d level (passed ++ e ∷ []) ≡ leader_behind d level passed
  leader_same passed e low =
      ap (λ pairs. last_lead (map (λ (pair : Pair). pair.0) pairs))
      (filter-append stands_higher passed (e ∷ [])
      ∙ ap (λ b. filter stands_higher passed ++ cond b (e ∷ []) []) (le-ltb level (d.level e.0) low)
      ∙ append-nil (filter stands_higher passed))
