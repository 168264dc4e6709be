-- The levels of a list that are read up to a key, one after another from the highest one down.
use Rattle.std.proofs.Common.{◌≡◌, ◌⊎◌, inl, inr, ℕ, suc, ◌+◌, ◌-◌, ◌/◌, ◌<◌, ◌≤◌, List, ◌∷◌, ◌++◌, filter, length}
use Rattle.std.proofs.Common.{not, true, false, nat_le, get_or, set, Option, Some, None, Result, Ok, Err, Less, Equal}
use Rattle.std.proofs.Common.{Greater, refl, sym, ap, subst, ◌∙◌, arith}
use Rattle.std.specs.Ordering.{is_lt, is_le}
use Rattle.std.specs.FinMap.{find}
use Rattle.std.specs.List.{slice_get, AllByRecursion}
use Rattle.std.specs.List.Sorted.{IsStrictlySortedBy}
use Rattle.std.specs.Option.{IfSome}
use Rattle.std.specs.Cmp.{tied_itself}
use Rattle.std.specs.Cmp.Lexicographic.{nat_list_cmp_total}
use Rattle.std.specs.declared.cmp.Ordering.{Ordering}
use Rattle.std.proofs.lemmas.Bool.{cases_order}
use Rattle.std.proofs.lemmas.List.{get_or-set_same, get_or-set_other}
use Rattle.std.proofs.lemmas.Option.{slice_get-get_or}
use Rattle.store_base.specs.declared.store_fault.Fault.{Fault}
use Rattle.store_base.specs.declared.label.Lead as declared
use Rattle.store_base.specs.declared.label.Lead.TheVariants as leads
use Rattle.store_base.specs.Leads.{model_lead}
use Rattle.store_model.specs.Paths.{key_cmp}
use Rattle.store_model.specs.Draws.{Draw}
use Rattle.store_model.specs.Pairs.{Pair}
use Rattle.store_model.specs.Labels.{Label}
use Rattle.store_model.specs.Pages.{Cell, Page, cell_on, level_list, leads_group, groups, page_room}
use Rattle.store_model.specs.PageMaps.{PageMap, page_at}
use Rattle.store_model.proofs.ListsLemmas.{all_map, all_filter, all_back, all_front, all_weaker, rising_from_is_sorted}
use Rattle.store_model.proofs.PagesLemmasOrder.{cell_on-key}
use Rattle.node_pages.specs.PagesState.{PagesState, IsObservable, GetsPage, IsPageGet}
use Rattle.layout_scratch.specs.Counting.{last_length}
use Rattle.skip_groups.specs.Floors.{last_of, lead_from}
use Rattle.skip_groups.specs.Groups.{HoldsGroup, group_cost, label_of}
use Rattle.skip_groups.specs.Searches.{IsPagesRead, IsGroupWalk, ReadsGroup}
use Rattle.skip_levels.specs.Descent.{HoldsPairs}
use Rattle.skip_levels.specs.SearchPath.{leader_behind, group_below, below, above}
use Rattle.skip_levels.proofs.Around.{last_part, first_cut}
use Rattle.skip_levels.proofs.Descents.{lead_of_last_part, start_leads_highest}
use Rattle.skip_levels.proofs.LedGroups.{led_by_place}
use Rattle.skip_levels.proofs.PairSides.{lacks_pair, has_pair}
use Rattle.skip_levels.proofs.PathCosts.{costs_from, costs_down, costs_within}
use Rattle.skip_levels.proofs.PathLemmas.{all_kept, few_in_group, holds_pairs_place}
use Rattle.skip_levels.proofs.PlaceGroups.{group_of_place}
use Rattle.skip_levels.proofs.ValueLemmas.{read_fails, read_told, read_behind}
use Rattle.pair_stream.specs.GroupReads.{IsHeld, page_ahead}
use Rattle.pair_stream.specs.Streams.{IsReadTo, AreReadTo}
use Rattle.pair_stream.specs.Starts.{is_below, last_before, IsReadBelow, IsListOf}
use Rattle.pair_stream.specs.Starts.{ReadsLevels, IsLevelsRead, IsStartSearch}
use Rattle.pair_stream.specs.declared.places.LevelPlace.{LevelPlace}
use Rattle.pair_stream.specs.declared.places.PairStream.{PairStream}
use Rattle.pair_stream.proofs.LevelReads.{if_some_at}
use Rattle.pair_stream.proofs.Passed.{length_of_last}
use Rattle.pair_stream.proofs.StartGroups.{count_is, last_is}

-- ---- the two sides of a key

-- the pairs of a list from a key on
pub record FromKey (key : List ℕ) (s : List Pair) : Type 0 where
  pub left : List Pair
  pub parts : s ≡ below key s ++ left
  pub fails : AllByRecursion (λ pair. is_lt (key_cmp pair.0 key) ≡ false) left

not_less : (o : Ordering) → not (is_le o) ≡ true → is_lt o ≡ false
not_less Less e = absurd (cc)
not_less Equal e = absurd (cc)
not_less Greater e = refl

above_fails : (key : List ℕ) (s : List Pair)
    → AllByRecursion (λ pair. is_lt (key_cmp pair.0 key) ≡ false) (above key s)
above_fails key s = all_weaker (λ (pair : Pair). not (is_le (key_cmp pair.0 key)) ≡ true)
    (λ pair. is_lt (key_cmp pair.0 key) ≡ false) (λ pair e. not_less (key_cmp pair.0 key) e) (above key s)
    (all_kept (λ (pair : Pair). not (is_le (key_cmp pair.0 key))) s)

pub from_key : (key : List ℕ) (s : List Pair) → IsStrictlySortedBy (λ a b. key_cmp a.0 b.0) s → FromKey key s
from_key key s rising = elim (find key_cmp key s) as (λ o. find key_cmp key s ≡ o → FromKey key s) [
  | None ↦ λ none. record {
    left = above key s;
    parts = (lacks_pair key s rising none).sides;
    fails = above_fails key s;
  }
  | Some value ↦ λ found. record {
    left = (key, value) ∷ above key s;
    parts = (has_pair key value s rising found).sides;
    fails = (ap is_lt (tied_itself nat_list_cmp_total key), above_fails key s);
  }
] refl

pub sides : {d : Draw} {s : List Pair} {m : PageMap} (key : List ℕ) → HoldsPairs d s m → FromKey key s
sides {s = s} key holds = from_key key s (rising_from_is_sorted key_cmp s holds.pairs.sorted)

-- ---- one level

module _ (d : Draw) (level : ℕ) (key : List ℕ) (s : List Pair) (f : FromKey key s) where
  abbrev pub low : List Pair
  low = below key s

  abbrev pub group : List Cell
  group = group_of_place d level low f.left

  low_passes : AllByRecursion (λ c. is_below key c ≡ true) (level_list d low level)
  unfolding level_list
  low_passes =
      all_map (λ (pair : Pair). is_lt (key_cmp pair.0 key) ≡ true) (λ c. is_below key c ≡ true) (cell_on level)
      (λ pair e. ap (λ k. is_lt (key_cmp k key)) (cell_on-key level pair) ∙ e)
      (filter (λ pair. nat_le level (d.level pair.0)) low)
      (all_filter _ (λ pair. nat_le level (d.level pair.0)) low
      (all_kept (λ (pair : Pair). is_lt (key_cmp pair.0 key)) s))

  high_fails : AllByRecursion (λ c. is_below key c ≡ false) (level_list d f.left level)
  unfolding level_list
  high_fails =
      all_map (λ (pair : Pair). is_lt (key_cmp pair.0 key) ≡ false) (λ c. is_below key c ≡ false) (cell_on level)
      (λ pair e. ap (λ k. is_lt (key_cmp k key)) (cell_on-key level pair) ∙ e)
      (filter (λ pair. nat_le level (d.level pair.0)) f.left)
      (all_filter _ (λ pair. nat_le level (d.level pair.0)) f.left f.fails)

  -- how far it is read
  pub record IsRead (count : ℕ) (next : declared.Lead) : Type 0 where
    pub counted : count ≡ last_length (groups d low level)
    pub leads : (lower : ℕ) → level ≡ suc lower → model_lead next ≡ leader_behind d lower low

  pub is_read : (count : ℕ) (next : declared.Lead) → IsReadBelow (leader_behind d level low) key group (count, next)
      → IsRead count next
  unfolding group_of_place groups
  is_read count next read =
      let l = last_part (leads_group d level) (level_list d low level) in
      let h = first_cut (leads_group d level) (level_list d f.left level) in
      let passes = all_back (λ c. is_below key c ≡ true) l.before l.part
      (subst (AllByRecursion (λ c. is_below key c ≡ true)) l.whole low_passes) in
      let fails = all_front (λ c. is_below key c ≡ false) h.part h.behind
      (subst (AllByRecursion (λ c. is_below key c ≡ false)) h.whole high_fails) in
      let long : count ≡ length l.part = count_is key l.part h.part count passes fails read.count.each read.count.next
      in
      let led : model_lead next ≡ lead_from (last_of l.part) (leader_behind d level low) =
      read.next ∙ ap (λ n. lead_from (last_before (l.part ++ h.part) n) (leader_behind d level low)) long
      ∙ ap (λ o. lead_from o (leader_behind d level low)) (last_is l.part h.part) in
      record {
        counted = long ∙ sym (length_of_last (leads_group d level) (level_list d low level));
        leads = λ lower is. led ∙ subst (λ k.
            lead_from (last_of (last_part (leads_group d k) (level_list d low k)).part) (leader_behind d k low)
            ≡ leader_behind d lower low) (sym is) (sym (lead_of_last_part d lower low));
      }

-- ---- level after level

abbrev pub cost_at : Draw → List Pair → List ℕ → ℕ → ℕ
cost_at d s key level = group_cost level (group_below d s level key)

-- how far a level is read
abbrev pub read_place : declared.Lead → ℕ → LevelPlace
read_place lead count = record { lead = lead; count = count }

module _ (old : PagesState) (height : ℕ) (key : List ℕ) where
  -- what is known of observable pages once the levels from one on are read
  pub record LevelsFrom (now : PagesState) (level : ℕ) (lead : declared.Lead) (places : List LevelPlace) : Type 0 where
    pub observable : IsObservable now
    pub unchanged : now.pages ≡ old.pages
    pub read : (d : Draw) (s : List Pair) → IsListOf d s old.pages height → (k : ℕ) → level ≤ k → k < d.height
        → IfSome (slice_get places k) (IsReadTo d (below key s) k)
    pub leads : (d : Draw) (s : List Pair) → IsListOf d s old.pages height → (lower : ℕ) → level ≡ suc lower
        → model_lead lead ≡ leader_behind d lower (below key s)
    pub lookups : (d : Draw) (s : List Pair) → IsListOf d s old.pages height
        → now.lookups ≤ old.lookups + costs_from (cost_at d s key) level (height - level)

  abbrev pub Lowers : PagesState → ℕ → declared.Lead → List LevelPlace → Type 0
  Lowers now level lead places =
      IsPagesRead {T = Unit {0}} old now (LevelsFrom now level lead places) (Ok tt)

  pub lowers_start : (places : List LevelPlace) → Lowers old height leads.Start places
  lowers_start places = record {
    faults = refl;
    lookups_kept = omega arith;
    hidden = λ o. o;
    observed = λ o. record {
      observable = o;
      unchanged = refl;
      read = λ d s list k from low. absurd (omega (arith, list.high));
      leads = λ d s list lower is. sym (start_leads_highest d lower (below key s) list.holds.lawful
          (omega (arith, list.high)));
      lookups = λ d s list. omega arith;
    };
  }

module _ {old now : PagesState} {height : ℕ} {key : List ℕ} {level above_it : ℕ} {lead : declared.Lead}
    {places : List LevelPlace} (is : above_it ≡ suc level) (within : level < height)
    (n : LevelsFrom old height key now above_it lead places) (d : Draw) (s : List Pair)
    (list : IsListOf d s old.pages height) where
  abbrev here : List Cell
  here = group d level key s (sides key list.holds)

  leads_here : model_lead lead ≡ leader_behind d level (below key s)
  leads_here = n.leads d s list level is

  held : HoldsGroup now.pages level (model_lead lead) here
  held =
      let f = sides key list.holds in
      subst (λ l. HoldsGroup now.pages level l (group d level key s f)) (sym leads_here)
      (holds_pairs_place d s now level (below key s) f.left f.parts
      (subst (HoldsPairs d s) (sym n.unchanged) list.holds) (omega (arith, list.high)))

  cost_is : group_cost level here ≡ cost_at d s key level
  cost_is = ap (group_cost level)
      (sym (led_by_place d level s (below key s) (sides key list.holds).left (sides key list.holds).parts
      list.holds.pairs))

  costs : {new : PagesState} {IsFound : List Cell → Type 0} → ReadsGroup now new level (model_lead lead) IsFound
      → new.lookups ≤ old.lookups + costs_from (cost_at d s key) level (height - level)
  costs g =
      let before = subst (λ k. now.lookups ≤ old.lookups + costs_from (cost_at d s key) k (height - k)) is
      (n.lookups d s list) in
      omega (arith, g.lookups here held, cost_is, before, costs_down (cost_at d s key) level height within)

module _ {old now new : PagesState} {height : ℕ} {key : List ℕ} {level above_it : ℕ} {lead : declared.Lead}
    {places : List LevelPlace} (w : Lowers old height key now above_it lead places) (is : above_it ≡ suc level)
    (within : level < height) where
  pub lower_fails : {S : Type 0} {fault : Fault} {IsFound : List Cell → Type 0}
      → IsGroupWalk {T = S} now new level (model_lead lead) IsFound (Err fault)
      → IsLevelsRead old new height key (Err fault)
  lower_fails {fault = fault} walk = read_fails fault (λ x. x) (read_behind
      (λ (n : LevelsFrom old height key now above_it lead places). n.observable)
      (λ n g. record {
        observable = g.observable;
        unchanged = g.unchanged ∙ n.unchanged;
        found = λ d s list. tt;
        lookups = λ d s list.
            let all = costs_within (cost_at d s key) level height (omega arith) in
            let high = ap (costs_from (cost_at d s key) 0) list.high in
            omega (arith, costs is within n d s list g, all, high);
      }) w walk)

  pub lower_read : {count : ℕ} {next : declared.Lead}
      → IsGroupWalk {T = ℕ × declared.Lead} now new level (model_lead lead) (λ cells. IsReadBelow (model_lead lead)
      key cells (count, next))
      (Ok (count, next))
      → (at : ℕ) → at ≡ level → height ≤ length places
      → Lowers old height key new level next (set places at (read_place lead count))
  lower_read {count} {next} walk at at_is long = read_told tt (read_behind
      (λ (n : LevelsFrom old height key now above_it lead places). n.observable)
      (λ n g. record {
        observable = g.observable;
        unchanged = g.unchanged ∙ n.unchanged;
        read = λ d s list k from low. read_at n g d s list k from low;
        leads = λ d s list lower lower_is. (reads n g d s list).leads lower lower_is;
        lookups = λ d s list. costs is within n d s list g;
      }) w walk)
    where
      reads : (n : LevelsFrom old height key now above_it lead places)
          → ReadsGroup now new level (model_lead lead) (λ cells. IsReadBelow (model_lead lead) key cells (count, next))
          → (d : Draw) (s : List Pair) (list : IsListOf d s old.pages height)
          → IsRead d level key s (sides key list.holds) count next
      reads n g d s list =
          let f = sides key list.holds in
          let few = few_in_group d level (below key s) f.left in
          is_read d level key s f count next
          (subst (λ l. IsReadBelow l key (group d level key s f) (count, next)) (leads_here is within n d s list)
          (g.found (group d level key s f) (held is within n d s list)
          (omega (arith, few, ap length f.parts, list.holds.few))))

      read_at : (n : LevelsFrom old height key now above_it lead places)
          → ReadsGroup now new level (model_lead lead) (λ cells. IsReadBelow (model_lead lead) key cells (count, next))
          → (d : Draw) (s : List Pair) (list : IsListOf d s old.pages height) (k : ℕ) → level ≤ k → k < d.height
          → IfSome (slice_get (set places at (read_place lead count)) k) (IsReadTo d (below key s) k)
      read_at n g d s list k from low = if_some_at (IsReadTo d (below key s) k) (set places at (read_place lead
          count)) k (λ z.
          by_order z (cases_order k at))
        where
          by_order : (z : LevelPlace) → (k ≡ at) ⊎ ((k < at) ⊎ (at < k))
              → IsReadTo d (below key s) k (get_or (set places at (read_place lead count)) k z)
          by_order z (inl same) =
              subst (λ j. IsReadTo d (below key s) j (get_or (set places at (read_place lead count)) j z)) (sym same)
              (subst (IsReadTo d (below key s) at) (sym (get_or-set_same places at (read_place lead count) z (omega
              (arith, at_is))))
              (subst (λ j. IsReadTo d (below key s) j (read_place lead count)) (sym at_is) (record {
                lead = leads_here is within n d s list;
                count = (reads n g d s list).counted;
              })))
          by_order z (inr (inl less)) = absurd (omega (arith, at_is, from))
          by_order z (inr (inr more)) =
              subst (IsReadTo d (below key s) k) (sym (get_or-set_other places at k (read_place lead count) z (λ same.
              omega arith)))
              (subst (λ o. IfSome o (IsReadTo d (below key s) k))
              (slice_get-get_or places k z (omega (arith, list.high)))
              (n.read d s list k (omega (arith, at_is, is)) low))

-- all levels are read
pub levels_read : {old now : PagesState} {height : ℕ} {key : List ℕ} {level : ℕ} {lead : declared.Lead}
    {places : List LevelPlace} → Lowers old height key now level lead places → level ≡ 0
    → IsLevelsRead old now height key (Ok places)
levels_read {old} {now} {height} {key} {level} {lead} {places} w lowest = record {
  faults = w.faults;
  lookups_kept = w.lookups_kept;
  hidden = w.hidden;
  observed = λ o. let n = w.observed o in record {
    observable = n.observable;
    unchanged = n.unchanged;
    found = λ d s list k low. n.read d s list k (omega (arith, lowest)) low;
    lookups = λ d s list.
        let all : height - level ≡ d.height = omega (arith, list.high, lowest) in
        omega (
          arith,
          n.lookups d s list,
          ap (λ k. costs_from (cost_at d s key) k (height - level)) lowest,
          ap (costs_from (cost_at d s key) 0) all,
        );
  };
}

-- ---- a stream that starts there

-- a page that was asked for, as a read
got : {old new : PagesState} {label : Label} {result : Result (Option Page) Fault} → IsPageGet old new label result
    → IsPagesRead old new (GetsPage old new label result × (new.lookups ≤ old.lookups + 1)) result
got get = record {
  faults = get.faults;
  lookups_kept = get.lookups_kept;
  hidden = get.hidden;
  observed = λ o. (get.observed o, get.lookups_most);
}

module _ {old mid new : PagesState} {height : ℕ} {key : List ℕ} {places : List LevelPlace}
    (levels : IsLevelsRead old mid height key (Ok places)) {here : LevelPlace}
    (at : slice_get places 0 ≡ Some here) {label : Label}
    (label_is : label ≡ label_of 0 (model_lead here.lead) (here.count / page_room 0)) where
  pub start_fails : {fault : Fault} → IsPageGet mid new label (Err fault) → IsStartSearch old new height key (Err fault)
  start_fails {fault} get = read_fails fault (λ x. x) (read_behind
      (λ (n : ReadsLevels old mid height key (Ok places)). n.observable)
      (λ n g. record {
        observable = g.0.observable;
        unchanged = g.0.unchanged ∙ n.unchanged;
        stands = λ d s list. tt;
        lookups = λ d s list. omega (arith, n.lookups d s list, g.1);
      }) levels (got get))

  pub starts : {page : Option Page} {stream : PairStream} → IsPageGet mid new label (Ok page)
      → stream.height ≡ height → stream.places ≡ places → stream.page ≡ page
      → IsStartSearch old new height key (Ok stream)
  starts {page} {stream} get height_is places_are page_is = read_told stream (read_behind
      (λ (n : ReadsLevels old mid height key (Ok places)). n.observable)
      (λ n g. record {
        observable = g.0.observable;
        unchanged = g.0.unchanged ∙ n.unchanged;
        stands = λ d s list.
            let f = sides key list.holds in
            let held : page ≡ page_ahead old.pages here = g.0.found
            ∙ ap (λ m. page_at m label) n.unchanged ∙ ap (page_at old.pages) label_is in
            record {
              holds = list.holds;
              height = height_is ∙ list.high;
              left = f.left;
              parts = f.parts;
              places = subst (AreReadTo d (below key s)) (sym places_are) (n.found d s list);
              page = subst (λ ps. IfSome (slice_get ps 0) (λ place. IsHeld old.pages place stream.page)) (sym
                  places_are)
                  (subst (λ o. IfSome o (λ place. IsHeld old.pages place stream.page)) (sym at)
                  (λ within. page_is ∙ held));
            };
        lookups = λ d s list. omega (arith, n.lookups d s list, g.1);
      }) levels (got get))
