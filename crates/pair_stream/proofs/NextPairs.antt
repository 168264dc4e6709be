-- The pair that comes next in a list: on level 0 as the next cell of the group, or above as what leads the next groups.
use Rattle.std.proofs.Common.{◌≡◌, inl, inr, ℕ, ◌+◌, ◌<◌, ◌≤◌, List, [], ◌∷◌, ◌++◌}
use Rattle.std.proofs.Common.{Some}
use Rattle.std.proofs.Common.{None, sym, ap, subst, ◌∙◌, arith, append-nil}
use Rattle.std.specs.List.{slice_get}
use Rattle.std.specs.Option.{option_map, IfSome}
use Rattle.std.proofs.lemmas.Bool.{cases_lt}
use Rattle.std.proofs.lemmas.List.{append_cancel_left}
use Rattle.store_base.specs.Leads.{model_lead}
use Rattle.store_model.specs.Draws.{Draw, IsLawful}
use Rattle.store_model.specs.Labels.Lead.{Leader}
use Rattle.store_model.specs.Pairs.{Pair}
use Rattle.store_model.specs.Pages.{Cell, cell_on}
use Rattle.store_model.specs.PageMaps.{PageMap}
use Rattle.store_model.proofs.PagesLemmasOrder.{cell_on-key}
use Rattle.node_pages.specs.PagesState.{PagesState}
use Rattle.layout_scratch.proofs.OneMoreKey.{level_takes}
use Rattle.skip_groups.specs.Floors.{pair_in}
use Rattle.skip_groups.specs.Groups.{HoldsGroup}
use Rattle.skip_levels.specs.Descent.{HoldsPairs}
use Rattle.skip_levels.proofs.PathLemmas.{holds_pairs_place}
use Rattle.skip_levels.proofs.PlaceGroups.{group_of_place}
use Rattle.pair_stream.specs.Streams.{IsReadTo, StandsBehind, LeadsBelow, IsNextKey}
use Rattle.pair_stream.specs.declared.places.LevelPlace.{LevelPlace}
use Rattle.pair_stream.specs.declared.places.PairStream.{PairStream}
use Rattle.pair_stream.proofs.Passed.{ahead, next_of_group, none_ahead, none_before_leader, cell_ahead, leader_more}
use Rattle.pair_stream.proofs.Passed.{leader_same}

-- ---- one level, one pair more

module _ (d : Draw) (passed : List Pair) (e : Pair) (level : ℕ) where
  pub read_below : (place : LevelPlace) → level < d.level e.0 → model_lead place.lead ≡ Leader e.0 → place.count ≡ 1
      → IsReadTo d (passed ++ e ∷ []) level place
  read_below place low lead count = record {
    lead = lead ∙ sym (leader_more d level passed e low);
    count = count ∙ sym ((level_takes d passed e level).below low).1;
  }

  pub read_own : (lead_of count_of new : LevelPlace) → level ≡ d.level e.0 → IsReadTo d passed level lead_of
      → IsReadTo d passed level count_of → new.lead ≡ lead_of.lead → new.count ≡ count_of.count + 1
      → IsReadTo d (passed ++ e ∷ []) level new
  read_own lead_of count_of new own lead_read count_read lead count = record {
    lead = ap model_lead lead ∙ lead_read.lead ∙ sym (leader_same d level passed e (omega (arith, own)));
    count = count ∙ ap (λ n. n + 1) count_read.count ∙ sym ((level_takes d passed e level).at own).1;
  }

  pub read_above : (place : LevelPlace) → d.level e.0 < level → IsReadTo d passed level place
      → IsReadTo d (passed ++ e ∷ []) level place
  read_above place high read = record {
    lead = read.lead ∙ sym (leader_same d level passed e (omega arith));
    count = read.count ∙ sym ((level_takes d passed e level).above high).1;
  }

-- ---- what is next

module _ (d : Draw) (s passed left : List Pair) (parts : s ≡ passed ++ left) where
  same_left : (e : Pair) (rest : List Pair) → s ≡ passed ++ e ∷ rest → left ≡ e ∷ rest
  same_left e rest is = append_cancel_left passed left (e ∷ rest) (sym parts ∙ is)

  -- where no cell is ahead on a level, the next pair leads on it too
  pub leads_further : (level : ℕ) → LeadsBelow d s passed level → slice_get (ahead d level left) 0 ≡ None
      → LeadsBelow d s passed (level + 1)
  leads_further level leads none = λ e rest is.
      elim (cases_lt level (d.level e.0)) as (λ c. level + 1 ≤ d.level e.0) [
        | inl higher ↦ omega arith
        | inr low ↦
            let at : level ≤ d.level e.0 = leads e rest is in
            let own : level ≡ d.level e.0 = omega arith in
            let some = sym none ∙ ap (λ xs. slice_get (ahead d level xs) 0) (same_left e rest is)
            ∙ cell_ahead d level e rest own in
            absurd (no_cell (cell_on level e) some)
      ]
    where
      no_cell : (c : Cell) → None ≡ Some c → ⊥
      no_cell c e = cc

-- the next pair of a list, whose key stands on a level and on none above
pub record IsNextPair (d : Draw) (s passed left : List Pair) (level : ℕ) (pair : Pair) : Type 0 where
  pub rest : List Pair
  pub left_is : left ≡ pair ∷ rest
  pub own : level ≡ d.level pair.0

module _ (d : Draw) (s passed : List Pair) where
  -- where a cell is ahead on a level, it is that of the next pair
  key_in : (left : List Pair) (level : ℕ) (key : List ℕ) → s ≡ passed ++ left → LeadsBelow d s passed level
      → Some key ≡ option_map (λ (cell : Cell). cell.key) (slice_get (ahead d level left) 0)
      → IsNextKey d s passed level key
  key_in [] level key parts leads some =
      absurd (no_key key (some ∙ ap (option_map (λ (cell : Cell). cell.key)) (none_ahead d level)))
    where
      no_key : (k : List ℕ) → Some k ≡ None → ⊥
      no_key k e = cc
  key_in (e ∷ rest) level key parts leads some =
      elim (cases_lt level (d.level e.0)) as (λ c. IsNextKey d s passed level key) [
        | inl higher ↦ absurd (no_key key
            (some ∙ ap (option_map (λ (cell : Cell). cell.key)) (none_before_leader d level e rest higher)))
        | inr low ↦
            let at : level ≤ d.level e.0 = leads e rest parts in
            let own : level ≡ d.level e.0 = omega arith in
            record {
              pair = e;
              rest = rest;
              parts = parts;
              key_is = same key (cell_on level e).key
                  (some ∙ ap (option_map (λ (cell : Cell). cell.key)) (cell_ahead d level e rest own))
                  ∙ cell_on-key level e;
              level_is = own;
            }
      ]
    where
      no_key : (k : List ℕ) → Some k ≡ None → ⊥
      no_key k e = cc

      same : (a b : List ℕ) → Some a ≡ Some b → a ≡ b
      same a b e = cc

  pub next_key_is : (left : List Pair) (level : ℕ) (key : List ℕ) → s ≡ passed ++ left → LeadsBelow d s passed level
      → Some key ≡ option_map (λ (cell : Cell). cell.key) (slice_get (ahead d level left) 0)
      → IsNextKey d s passed level key
  next_key_is left level key parts leads some = key_in left level key parts leads some

  -- no pair leads on all levels
  pub all_passed : (left : List Pair) (level : ℕ) → s ≡ passed ++ left → IsLawful d → d.height ≤ level
      → LeadsBelow d s passed level → passed ≡ s
  all_passed [] level parts lawful high leads = sym (parts ∙ append-nil passed)
  all_passed (e ∷ rest) level parts lawful high leads =
      absurd (omega (arith, leads e rest parts, lawful.level_in_range e.0))

  -- on level 0 the next cell has the next pair
  pub next_pair_is : (left : List Pair) (pair : Pair) → Some pair ≡ pair_in (slice_get (ahead d 0 left) 0)
      → IsNextPair d s passed left 0 pair
  next_pair_is [] pair some = absurd (no_pair pair (some ∙ ap pair_in (none_ahead d 0)))
    where
      no_pair : (p : Pair) → Some p ≡ None → ⊥
      no_pair p e = cc
  next_pair_is (e ∷ rest) pair some =
      elim (cases_lt 0 (d.level e.0)) as (λ c. IsNextPair d s passed (e ∷ rest) 0 pair) [
        | inl higher ↦ absurd (no_pair pair (some ∙ ap pair_in (none_before_leader d 0 e rest higher)))
        | inr low ↦
            let own : 0 ≡ d.level e.0 = omega arith in
            let is : e ≡ pair = sym (same pair e (some ∙ ap pair_in (cell_ahead d 0 e rest own))) in
            record {
              rest = rest;
              left_is = ap (λ p. p ∷ rest) is;
              own = own ∙ ap (λ (p : Pair). d.level p.0) is;
            }
      ]
    where
      no_pair : (p : Pair) → Some p ≡ None → ⊥
      no_pair p e = cc

      same : (a b : Pair) → Some a ≡ Some b → a ≡ b
      same a b e = cc

  -- and where it has none, the next pair leads the next group
  pub leads_from_none : (left : List Pair) → s ≡ passed ++ left → None ≡ pair_in (slice_get (ahead d 0 left) 0)
      → LeadsBelow d s passed 1
  leads_from_none left parts none = λ e rest is.
      elim (cases_lt 0 (d.level e.0)) as (λ c. 1 ≤ d.level e.0) [
        | inl higher ↦ omega arith
        | inr low ↦
            let own : 0 ≡ d.level e.0 = omega arith in
            absurd (no_pair e (none ∙ ap (λ xs. pair_in (slice_get (ahead d 0 xs) 0))
            (append_cancel_left passed left (e ∷ rest) (sym parts ∙ is)) ∙ ap pair_in (cell_ahead d 0 e rest own)))
      ]
    where
      no_pair : (p : Pair) → None ≡ Some p → ⊥
      no_pair p e = cc

-- ---- where a stream stands

module _ {d : Draw} {s : List Pair} {m : PageMap} {passed : List Pair} {stream : PairStream}
    (h : StandsBehind d s m passed stream) (level : ℕ) (place : LevelPlace)
    (at : slice_get stream.places level ≡ Some place) (below : level < d.height) where
  pub read_to : IsReadTo d passed level place
  read_to = subst (λ o. IfSome o (IsReadTo d passed level)) at (h.places level below)

  -- the pages hold the group that a level is read in
  pub group_held : (pages : PagesState) → pages.pages ≡ m
      → HoldsGroup pages.pages level (model_lead place.lead) (group_of_place d level passed h.left)
  group_held pages same = subst (λ l. HoldsGroup pages.pages level l (group_of_place d level passed h.left))
      (sym read_to.lead) (holds_pairs_place d s pages level passed h.left h.parts
      (subst (λ map. HoldsPairs d s map) (sym same) h.holds) below)

  -- and its next cell is the one ahead
  pub next_cell : slice_get (group_of_place d level passed h.left) place.count ≡ slice_get (ahead d level h.left) 0
  next_cell = ap (slice_get (group_of_place d level passed h.left)) read_to.count
      ∙ next_of_group d level passed h.left
