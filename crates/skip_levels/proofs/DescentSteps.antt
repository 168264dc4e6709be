-- The steps of a way down from level to level on the search path of a key, and searches that are made of such ways.
use Rattle.std.proofs.Common.{◌≡◌, ℕ, suc, ◌+◌, ◌-◌, ◌<◌, ◌≤◌, List, Option, Some, None, Result, Ok, Err, refl, sym, ap}
use Rattle.std.proofs.Common.{subst, ◌∙◌, arith}
use Rattle.store_base.specs.declared.store_fault.Fault.{Fault}
use Rattle.store_base.specs.declared.label.Lead.{Lead}
use Rattle.store_base.specs.Faults.{disk_faults_after}
use Rattle.store_base.specs.Leads.{model_lead}
use Rattle.store_model.specs.Labels.Lead.{Start}
use Rattle.store_model.specs.Draws.{Draw}
use Rattle.store_model.specs.Pairs.{Pair}
use Rattle.store_model.specs.Pages.{Cell}
use Rattle.store_model.specs.PageMaps.{PageMap}
use Rattle.node_pages.specs.PagesState.{PagesState, IsObservable}
use Rattle.skip_groups.specs.Floors.{floor_of, after_of, lead_from}
use Rattle.skip_groups.specs.Groups.{HoldsGroup}
use Rattle.skip_levels.specs.SearchPath.{above, leader_behind, leader_ahead, not_above, levels_cost}
use Rattle.skip_levels.specs.Descent.{HoldsPairs, IsSearched, LiesInKnown, IsPlace, IsWayFrom, IsWayDown, IsPlaceSearch}
use Rattle.skip_levels.specs.Descent.{lead_in, led_by, followed_by}
use Rattle.skip_levels.specs.declared.walk.PathEnd.{PathEnd}
use Rattle.skip_groups.specs.Searches.{seen, ReadsGroup, IsGroupWalk, IsGroupSearch}
use Rattle.skip_levels.proofs.PlaceGroups.{group_of_place}
use Rattle.skip_levels.proofs.Descents.{key_ahead, next_lead, next_ahead, start_leads_highest, none_ahead_highest}
use Rattle.skip_levels.proofs.PathLemmas.{side_passes, side_fails, holds_path, few_on_path}
use Rattle.skip_levels.proofs.KnownPlaces.{known_at}
use Rattle.skip_levels.proofs.PathCosts.{cost_within, cost_of_level, levels_joined}
use Rattle.skip_groups.proofs.GroupSteps.{same_count}

-- what the cells next to a key make of a place on its search path
lead_seen : (floor after : Option Cell) (end : PathEnd)
    → model_lead (seen followed_by after (seen led_by floor end)).lead ≡ lead_from floor (model_lead end.lead)
lead_seen None None end = refl
lead_seen None (Some cell) end = refl
lead_seen (Some cell) None end = refl
lead_seen (Some cell) (Some other) end = refl

next_seen : (floor after : Option Cell) (end : PathEnd)
    → (seen followed_by after (seen led_by floor end)).next ≡ key_ahead after end.next
next_seen None None end = refl
next_seen None (Some cell) end = refl
next_seen (Some cell) None end = refl
next_seen (Some cell) (Some other) end = refl

module _ (old : PagesState) (top : ℕ) (from : PathEnd) (key : List ℕ) where
  -- what is known of observable pages on the way down
  pub record Nears (now : PagesState) (level : ℕ) (end : PathEnd) : Type 0 where
    pub observable : IsObservable now
    pub unchanged : now.pages ≡ old.pages
    pub place : (d : Draw) (s : List Pair) → IsWayFrom d s old.pages top key from → IsPlace d s level key end
    pub lookups : (d : Draw) (s : List Pair) → IsWayFrom d s old.pages top key from
        → now.lookups ≤ old.lookups + levels_cost d s key (suc level) (suc top - suc level)

  -- the way is at a level, and this is the place
  pub record Descends (now : PagesState) (level : ℕ) (end : PathEnd) : Type 0 where
    pub faults : now.faults ≡ old.faults
    pub lookups_kept : old.lookups ≤ now.lookups
    pub hidden : IsObservable now → IsObservable old
    pub observed : IsObservable old → Nears now level end

-- the level's group
holds_group : {old now : PagesState} {top : ℕ} {from : PathEnd} {key : List ℕ} {level : ℕ} {end : PathEnd} → level ≤ top
    → Nears old top from key now level end → (d : Draw) (s : List Pair) → IsWayFrom d s old.pages top key from
    → HoldsGroup now.pages level (model_lead end.lead) (group_of_place d level (not_above key s) (above key s))
holds_group {old} {key = key} {level = level} {end = end} within n d s f =
    let group = group_of_place d level (not_above key s) (above key s) in
    subst (λ m. HoldsGroup m level (model_lead end.lead) group) (sym n.unchanged)
    (subst (λ l. HoldsGroup old.pages level l group) (sym (n.place d s f).lead)
    (holds_path d s old level key f.holds (omega (arith, f.within))))

module _ {old : PagesState} {top : ℕ} {from : PathEnd} {key : List ℕ} where
  pub way_starts : Descends old top from key old top from
  way_starts = record {
    faults = refl;
    lookups_kept = omega arith;
    hidden = λ o. o;
    observed = λ o. record {
      observable = o;
      unchanged = refl;
      place = λ d s f. f.place;
      lookups = λ d s f. omega arith;
    };
  }

  module _ {now next : PagesState} {level : ℕ} {end : PathEnd} (w : Descends old top from key now level end)
      (within : level ≤ top) where
    -- what the levels from this one on cost
    level_cost : {IsFound : List Cell → Type 0} (n : Nears old top from key now level end)
        → ReadsGroup now next level (model_lead end.lead) IsFound
        → (d : Draw) (s : List Pair) → IsWayFrom d s old.pages top key from
        → next.lookups ≤ old.lookups + levels_cost d s key level (suc top - level)
    level_cost n g d s f =
        omega (
          arith,
          g.lookups (group_of_place d level (not_above key s) (above key s))
              (holds_group within n d s f),
          n.lookups d s f,
          cost_of_level d s key level (suc top) f.holds.pairs (omega arith),
        )

    pub way_fails : {S : Type 0} {fault : Fault} {bottom : ℕ} {IsFound : List Cell → Type 0} → suc bottom ≤ level
        → IsGroupWalk {T = S} now next level (model_lead end.lead) IsFound (Err fault)
        → IsWayDown old next top from bottom key (Err fault)
    way_fails {S} {fault} {bottom} low search = record {
      faults = search.faults ∙ ap (λ n. disk_faults_after {T = S} n (Err fault)) w.faults
          ∙ same_count S PathEnd old.faults fault;
      lookups_kept = omega (arith, search.lookups_kept, w.lookups_kept);
      hidden = λ o. w.hidden (search.hidden o);
      observed = λ o. let n = w.observed o in let g = search.observed n.observable in record {
        observable = g.observable;
        unchanged = g.unchanged ∙ n.unchanged;
        found = λ d s f. tt;
        lookups = λ d s f.
            let whole = cost_within d s key (suc bottom) level (suc top) low (omega arith) in
            subst (λ k. next.lookups ≤ old.lookups + levels_cost d s key (suc bottom) k) (levels_between bottom)
            (omega (arith, level_cost n g d s f, whole));
      };
    }
      where
        levels_between : (b : ℕ) → suc top - suc b ≡ top - b
        levels_between b = omega arith

    pub way_goes_on : {S : Type 0} {done : S} {below : PathEnd} {lower : ℕ} → level ≡ suc lower
        → IsGroupSearch led_by followed_by now next level (model_lead end.lead) key end below (Ok done)
        → Descends old top from key next lower below
    way_goes_on {below = below} {lower = lower} is search = record {
      faults = search.faults ∙ w.faults;
      lookups_kept = omega (arith, search.lookups_kept, w.lookups_kept);
      hidden = λ o. w.hidden (search.hidden o);
      observed = λ o. let n = w.observed o in let g = search.observed n.observable in record {
        observable = g.observable;
        unchanged = g.unchanged ∙ n.unchanged;
        place = λ d s f.
            let low = not_above key s in
            let high = above key s in
            let at = n.place d s f in
            let group = group_of_place d level low high in
            let is_seen : below ≡ seen followed_by (after_of key group) (seen led_by (floor_of key group) end) =
            g.found group (holds_group within n d s f) (few_on_path d s old level key f.holds) in
            record {
              lead = ap (λ (e : PathEnd). model_lead e.lead) is_seen
                  ∙ lead_seen (floor_of key group) (after_of key group) end
                  ∙ ap (lead_from (floor_of key group)) at.lead
                  ∙ subst (λ k. lead_from (floor_of key (group_of_place d k low high)) (leader_behind d k low)
                  ≡ leader_behind d lower low) (sym is)
                  (sym (next_lead d lower key low high (side_passes d (suc lower) key s)
                  (side_fails d (suc lower) key s)));
              next = ap (λ (e : PathEnd). e.next) is_seen ∙ next_seen (floor_of key group) (after_of key group) end
                  ∙ ap (key_ahead (after_of key group)) at.next
                  ∙ subst (λ k. key_ahead (after_of key (group_of_place d k low high)) (leader_ahead d k high)
                  ≡ leader_ahead d lower high) (sym is)
                  (sym (next_ahead d lower key low high (side_passes d (suc lower) key s)
                  (side_fails d (suc lower) key s)));
            };
        lookups = λ d s f. subst (λ k. next.lookups ≤ old.lookups + levels_cost d s key k (suc top - k)) is
            (level_cost n g d s f);
      };
    }

  pub way_ends : {now : PagesState} {end : PathEnd} {level bottom : ℕ} → level ≡ bottom
      → Descends old top from key now level end
      → IsWayDown old now top from bottom key (Ok end)
  way_ends {now} {end} {level} low w = record {
    faults = w.faults;
    lookups_kept = w.lookups_kept;
    hidden = w.hidden;
    observed = λ o. let n = w.observed o in record {
      observable = n.observable;
      unchanged = n.unchanged;
      found = λ d s f. subst (λ k. IsPlace d s k key end) low (n.place d s f);
      lookups = λ d s f.
          let count : suc top - suc level ≡ top - level = omega arith in
          subst (λ k. now.lookups ≤ old.lookups + levels_cost d s key (suc k) (top - k)) low
          (subst (λ k. now.lookups ≤ old.lookups + levels_cost d s key (suc level) k) count (n.lookups d s f));
    };
  }

-- ---- a search from the highest level

-- nothing is known at the highest level: the start leads its one group
highest_place : (d : Draw) (s : List Pair) (m : PageMap) (height highest : ℕ) (key : List ℕ) (start : PathEnd)
    → model_lead start.lead ≡ Start → start.next ≡ None → height ≡ suc highest → HoldsPairs d s m → height ≡ d.height
    → IsWayFrom d s m highest key start
highest_place d s m height highest key start lead next is h high = record {
  holds = h;
  within = omega arith;
  place = record {
    lead = lead ∙ sym (start_leads_highest d highest (not_above key s) h.lawful (omega arith));
    next = next ∙ sym (none_ahead_highest d highest (above key s) h.lawful (omega arith));
  };
}

module _ (old mid : PagesState) (height highest : ℕ) (known : Option PathEnd) (top : ℕ) (key : List ℕ) (start : PathEnd)
    (is_start : model_lead start.lead ≡ Start) (none_ahead : start.next ≡ None) (high : height ≡ suc highest)
    (within : top < height) where
  from_highest : (d : Draw) (s : List Pair) → IsSearched d s old.pages height known
      → IsWayFrom d s old.pages highest key start
  from_highest d s h = highest_place d s old.pages height highest key start is_start none_ahead high h.holds h.high

  pub upper_fails : (fault : Fault) → IsWayDown old mid highest start top key (Err fault)
      → IsPlaceSearch old mid height known top key known (Err fault)
  upper_fails fault way = record {
    faults = way.faults ∙ same_count PathEnd Lead old.faults fault;
    lookups_kept = way.lookups_kept;
    hidden = way.hidden;
    observed = λ o. let n = way.observed o in record {
      observable = n.observable;
      unchanged = n.unchanged;
      lead = λ d s h. tt;
      place = λ d s h. tt;
      right = λ d s h. h.right;
      lookups = λ d s h.
          let count : highest - top ≡ height - suc top = omega arith in
          omega (
            arith,
            n.lookups d s (from_highest d s h),
            ap (levels_cost d s key (suc top)) count,
            cost_within d s
                key 1 (suc top) height (omega arith) (omega arith),
          );
    };
  }

  -- the way to level 0 is one
  pub low_found : (low : PathEnd) → top ≡ 0 → IsWayDown old mid highest start 0 key (Ok low)
      → IsPlaceSearch old mid height known 0 key (Some low) (Ok low.lead)
  low_found low lowest way = record {
    faults = way.faults;
    lookups_kept = way.lookups_kept;
    hidden = way.hidden;
    observed = λ o. let n = way.observed o in record {
      observable = n.observable;
      unchanged = n.unchanged;
      lead = λ d s h. (n.found d s (from_highest d s h)).lead;
      place = λ d s h. n.found d s (from_highest d s h);
      right = λ d s h. known_at d s key low h.holds.pairs (n.found d s (from_highest d s h));
      lookups = λ d s h. let count : highest - 0 ≡ height - 1 = omega arith
          in omega (arith, n.lookups d s (from_highest d s h), ap (levels_cost d s key 1) count);
    };
  }

  module _ (new : PagesState) (upper : PathEnd) (first : IsWayDown old mid highest start top key (Ok upper)) where
    way_on : (o : IsObservable old) (d : Draw) (s : List Pair) → IsSearched d s old.pages height known
        → IsWayFrom d s mid.pages top key upper
    way_on o d s h =
        let n = first.observed o in
        record {
          holds = subst (HoldsPairs d s) (sym n.unchanged) h.holds;
          within = omega (arith, h.high);
          place = n.found d s (from_highest d s h);
        }

    cost_of_both : {result : Result PathEnd Fault} → IsWayDown mid new top upper 0 key result
        → (o : IsObservable old) (d : Draw) (s : List Pair) → IsSearched d s old.pages height known
        → new.lookups ≤ old.lookups + levels_cost d s key 1 (height - 1)
    cost_of_both second o d s h =
        let u = first.observed o in
        let above_top : highest - top ≡ height - suc top = omega arith in
        let count : (top - 0) + (height - suc top) ≡ height - 1 = omega arith in
        let place : 1 + (top - 0) ≡ suc top = omega arith in
        omega (
          arith,
          (second.observed u.observable).lookups d s (way_on o d s h),
          u.lookups d s (from_highest d s h),
          ap (levels_cost d s key (suc top)) above_top,
          sym (ap (λ k. levels_cost d s key k (height - suc top)) place),
          levels_joined d s key 1 (top - 0) (height - suc top),
          ap (levels_cost d s key 1) count,
        )

    pub lower_fails : (fault : Fault) → IsWayDown mid new top upper 0 key (Err fault)
        → IsPlaceSearch old new height known top key known (Err fault)
    lower_fails fault second = record {
      faults = second.faults ∙ ap (λ n. disk_faults_after {T = PathEnd} n (Err fault)) first.faults
          ∙ same_count PathEnd Lead old.faults fault;
      lookups_kept = omega (arith, second.lookups_kept, first.lookups_kept);
      hidden = λ o. first.hidden (second.hidden o);
      observed = λ o.
          let u = first.observed o in
          let n = second.observed u.observable in
          record {
            observable = n.observable;
            unchanged = n.unchanged ∙ u.unchanged;
            lead = λ d s h. tt;
            place = λ d s h. tt;
            right = λ d s h. h.right;
            lookups = cost_of_both second o;
          };
    }

    pub lead_found : (low : PathEnd) → IsWayDown mid new top upper 0 key (Ok low)
        → IsPlaceSearch old new height known top key (Some low) (Ok upper.lead)
    lead_found low second = record {
      faults = second.faults ∙ first.faults;
      lookups_kept = omega (arith, second.lookups_kept, first.lookups_kept);
      hidden = λ o. first.hidden (second.hidden o);
      observed = λ o.
          let u = first.observed o in
          let n = second.observed u.observable in
          record {
            observable = n.observable;
            unchanged = n.unchanged ∙ u.unchanged;
            lead = λ d s h. (u.found d s (from_highest d s h)).lead;
            place = λ d s h. n.found d s (way_on o d s h);
            right = λ d s h. known_at d s key low h.holds.pairs (n.found d s (way_on o d s h));
            lookups = cost_of_both second o;
          };
    }

-- ---- to a group that is known

pub lead_is_known : (old : PagesState) (height top : ℕ) (known : Option PathEnd) (key : List ℕ) → top ≡ 0
    → LiesInKnown known key → IsPlaceSearch old old height known top key known (Ok (lead_in known))
lead_is_known old height top None key lowest lies = absurd lies
lead_is_known old height top (Some place) key lowest lies = record {
  faults = refl;
  lookups_kept = omega arith;
  hidden = λ o. o;
  observed = λ o. record {
    observable = o;
    unchanged = refl;
    lead = λ d s h. subst (λ k. model_lead place.lead ≡ leader_behind d k (not_above key s)) (sym lowest)
        (h.right key lies).lead;
    place = λ d s h. h.right key lies;
    right = λ d s h. h.right;
    lookups = λ d s h. omega arith;
  };
}
