-- A pair put or taken out, level after level: what holds behind the levels that are done.
use Rattle.std.proofs.Common.{◌≡◌, ℕ, suc, ◌+◌, ◌-◌, ◌<◌, ◌≤◌, List, [], ◌∷◌, Ok, Err, refl, sym, ap, subst, ◌∙◌, arith}
use Rattle.std.specs.FinMap.{put}
use Rattle.store_base.specs.declared.store_fault.Fault.{Fault}
use Rattle.store_base.specs.declared.store_fault.Fault.TheVariants.{NoMemory}
use Rattle.store_base.specs.declared.label.Lead as declared
use Rattle.store_base.specs.Keys.{IsKey}
use Rattle.store_base.specs.Leads.{model_lead}
use Rattle.store_model.specs.Paths.{key_cmp}
use Rattle.store_model.specs.Labels.{Lead}
use Rattle.store_model.specs.Labels.Lead.{Leader}
use Rattle.store_model.specs.Draws.{Draw}
use Rattle.store_model.specs.Pairs.{Pair, IsValue}
use Rattle.store_model.specs.Pages.{Cell, cell_on}
use Rattle.store_model.specs.PageMaps.{map_of_pages}
use Rattle.node_pages.specs.PagesState.{PagesState, IsObservable}
use Rattle.skip_levels.specs.CellChanges.{IsPagesCall, PagesHaveRoom, SetsCells, SplitsGroup, JoinsGroups}
use Rattle.skip_levels.specs.Descent.{HoldsPairs}
use Rattle.skip_groups.specs.Groups.{HoldsGroup, group_cost}
use Rattle.skip_levels.specs.PairChanges.{IsPutting, IsTaking, PutsPairFrom, TakesPairFrom}
use Rattle.ordered_pairs.specs.PairsState.{without}
use Rattle.skip_levels.specs.SearchPath.{leader_behind, group_below, group_at_or_below, levels_cost, path_cost_below}
use Rattle.skip_levels.specs.SearchPath.{not_above, below, above}
use Rattle.skip_levels.proofs.CallsBehind.{memory_lacks, fails_behind, failed_call}
use Rattle.skip_levels.proofs.LevelChanges.{pages_between, all_changed}
use Rattle.skip_levels.proofs.PathCosts.{cost_of_level, levels_within, costs_from, costs_down, costs_within}
use Rattle.skip_levels.proofs.PathLemmas.{holds_path}
use Rattle.skip_levels.proofs.PlaceCosts.{low_group, high_group}
use Rattle.skip_levels.proofs.PlaceGroups.{group_of_place}
use Rattle.skip_levels.proofs.PlaceLists.{within, put_begins, put_first, put_below, floor_below, pair_there}
use Rattle.skip_levels.proofs.PlaceLists.{take_within, take_begins, take_first, take_below}
use Rattle.skip_levels.proofs.PlaceSteps.{SetsAt, SplitsAt, JoinsAt}

-- ---- the first level

module _ (old new : PagesState) (top : ℕ) (lead : Lead) (key : List ℕ) (d : Draw) (s : List Pair) where
  -- what reading its group costs
  cost_of_first : HoldsPairs d s old.pages → lead ≡ leader_behind d top (not_above key s) → top < d.height
      → ((cells : List Cell) → HoldsGroup old.pages top lead cells → new.lookups ≤ old.lookups + group_cost top cells)
      → new.lookups ≤ old.lookups + levels_cost d s key top (suc top - top)
  cost_of_first holds leads within more =
      let group = group_of_place d top (not_above key s) (above key s) in
      omega (
        arith,
        more group (subst (λ l. HoldsGroup old.pages top l group) (sym leads)
            (holds_path d s old top key holds within)),
        cost_of_level d s key top (suc top) holds.pairs (omega arith),
      )

-- ---- a value put

module _ (old : PagesState) (top : ℕ) (first : Lead) (key value : List ℕ) where
  -- the map is that of the new list from a level on, and this leads the group of the next lower level
  pub record IsDown (now : PagesState) (level : ℕ) (lead : declared.Lead) (d : Draw) (s : List Pair) : Type 0 where
    pub pages_are : now.pages ≡ map_of_pages (pages_between d s (put key_cmp key value s) level)
    pub leads : (lower : ℕ) → level ≡ suc lower → model_lead lead ≡ leader_behind d lower (below key s)
    pub lookups : now.lookups ≤ old.lookups + levels_cost d s key level (suc top - level)

  pub record PutDown (now : PagesState) (level : ℕ) (lead : declared.Lead) : Type 0 where
    pub call : IsPagesCall {T = Unit {0}} old now (Ok (tt {0}))
    pub down : IsObservable old → (d : Draw) (s : List Pair) → IsPutting d s old.pages top first key
        → IsDown now level lead d s

  module _ (is_key : IsKey key) (is_value : IsValue value) where
    pub first_to_put : (d : Draw) (s : List Pair) (h : IsPutting d s old.pages top first key)
        → SetsAt old.pages d top first s (put key_cmp key value s) key (cell_on top (key, value) ∷ []) (below key s)
    first_to_put d s h =
        subst (λ l. SetsAt old.pages d top l s (put key_cmp key value s) key (cell_on top (key, value) ∷ [])
        (below key s)) (sym h.leads)
        (put_first d s old.pages top first key value h is_key is_value
        old.pages (h.holds.map_is ∙ ap map_of_pages
        (sym (put_begins d s old.pages top first key value h is_key is_value))))

    pub room_for_first : (IsObservable old → (d : Draw) × (s : List Pair) × IsPutting d s old.pages top first key)
        → IsObservable old → PagesHaveRoom old.pages top first
    room_for_first place o = let p = place o in (first_to_put p.0 p.1 p.2).room

module _ {old : PagesState} {top : ℕ} {first : Lead} {key value : List ℕ} where
  pub put_lacks_cell : PutsPairFrom {T = Unit {0}} old old top first key value (Err NoMemory)
  put_lacks_cell = record {
    call = record { faults = refl; lookups_kept = omega arith; hidden = λ o. o; observable = λ o. o };
    put = λ o d s h. tt;
    lookups = λ o d s h. omega arith;
  }

  pub put_lacks_memory : {now : PagesState} {level : ℕ} {lead : declared.Lead}
      → PutDown old top first key value now level lead → level ≤ top
      → PutsPairFrom {T = Unit {0}} old now top first key value (Err NoMemory)
  put_lacks_memory {level = level} w low = record {
    call = memory_lacks w.call;
    put = λ o d s h. tt;
    lookups = λ o d s h. omega (arith, (w.down o d s h).lookups, levels_within d s key level top (omega arith));
  }

  module _ (is_key : IsKey key) (is_value : IsValue value) where
    module _ {new : PagesState} {own : List Cell} where
      pub put_not_set : {fault : Fault} → SetsCells old new top first key own (Err fault)
          → PutsPairFrom {T = Unit {0}} old new top first key value (Err fault)
      put_not_set set = record {
        call = failed_call set.call;
        put = λ o d s h. tt;
        lookups = λ o d s h. omega (
          arith,
          cost_of_first old new top first key d s
              h.holds h.leads (within d s old.pages top first key value h is_key is_value)
              (λ cells holds. set.lookups o cells holds),
          levels_within d s key top top (omega arith),
        );
      }

      pub put_starts : {next : declared.Lead} → own ≡ cell_on top (key, value) ∷ []
          → SetsCells old new top first key own (Ok next)
          → PutDown old top first key value new top next
      put_starts {next = next} own_is set = record {
        call = record {
          faults = set.call.faults;
          lookups_kept = set.call.lookups_kept;
          hidden = set.call.hidden;
          observable = set.call.observable;
        };
        down = λ o d s h.
            let at = first_to_put old top first key value is_key is_value d s h in
            let done = (subst (λ cells. SetsCells old new top first key cells (Ok next)) own_is set).set o
            at.cells at.front at.back at.setting in
            record {
              pages_are = done.pages_are ∙ ap map_of_pages at.after;
              leads = λ lower is. done.next_is ∙ sym (at.next lower is);
              lookups = cost_of_first old new top first key d s
                  h.holds h.leads (within d s old.pages top first key value h is_key is_value)
                  (λ cells holds. set.lookups o cells holds);
            };
      }

  module _ {now : PagesState} {upper level : ℕ} {lead : declared.Lead}
      (reached : PutDown old top first key value now upper lead) (next_upper : upper ≡ suc level) (lower : level < top)
      (is_key : IsKey key) (is_value : IsValue value) where
    abbrev w : PutDown old top first key value now (suc level) lead
    w = subst (λ n. PutDown old top first key value now n lead) next_upper reached

    pub next_to_put : (o : IsObservable old) (d : Draw) (s : List Pair) (h : IsPutting d s old.pages top first key)
        → SplitsAt now.pages d level (model_lead lead) s (put key_cmp key value s) key (cell_on level (key, value) ∷ [])
        (below key s) (above key s)
    next_to_put o d s h =
        let n = w.down o d s h in
        let next : suc level ≡ level + 1 = omega arith in
        subst (λ l. SplitsAt now.pages d level l s (put key_cmp key value s) key (cell_on level (key, value) ∷ [])
        (below key s) (above key s)) (sym (n.leads level refl))
        (put_below d s old.pages top first key value h is_key is_value now.pages level lower
        (n.pages_are ∙ ap (λ k. map_of_pages (pages_between d s (put key_cmp key value s) k)) next))

    pub room_for_next : (IsObservable old → (d : Draw) × (s : List Pair) × IsPutting d s old.pages top first key)
        → IsObservable now → PagesHaveRoom now.pages level (model_lead lead)
    room_for_next place o = let p = place (w.call.hidden o) in (next_to_put (w.call.hidden o) p.0 p.1 p.2).room

    pub cost_down : (new : PagesState) (o : IsObservable old) (d : Draw) (s : List Pair)
        (h : IsPutting d s old.pages top first key)
        → ((cells : List Cell) → HoldsGroup now.pages level (model_lead lead) cells
        → new.lookups ≤ now.lookups + group_cost level cells)
        → new.lookups ≤ old.lookups + levels_cost d s key level (suc top - level)
    cost_down new o d s h more =
        let at = next_to_put o d s h in
        let floor = floor_below d s old.pages top first key value h is_key is_value level lower in
        let same : group_cost level at.cells
        ≡ group_cost level (group_of_place d level (not_above key s) (above key s)) =
        ap (group_cost level) (at.cells_are ∙ ap (λ low. group_of_place d level low (above key s)) (sym floor)) in
        omega (
          arith,
          more at.cells at.splitting.holds,
          same,
          (w.down o d s h).lookups,
          cost_of_level d s key level
              (suc top) h.holds.pairs (omega arith),
        )

    pub put_not_split : {new : PagesState} {own : List Cell} {fault : Fault}
        → SplitsGroup now new level (model_lead lead) key own (Err fault)
        → PutsPairFrom {T = Unit {0}} old new top first key value (Err fault)
    put_not_split {new = new} split = record {
      call = fails_behind w.call split.call;
      put = λ o d s h. tt;
      lookups = λ o d s h.
          omega (
            arith,
            cost_down new o d s h (λ cells holds. split.lookups (w.call.observable o) cells holds),
            levels_within d s key level top (omega arith),
          );
    }

    pub put_goes_on : {new : PagesState} {own : List Cell} {next : declared.Lead}
        → own ≡ cell_on level (key, value) ∷ [] → SplitsGroup now new level (model_lead lead) key own (Ok next)
        → PutDown old top first key value new level next
    put_goes_on {new = new} {next = next} own_is split = record {
      call = record {
        faults = split.call.faults ∙ w.call.faults;
        lookups_kept = omega (arith, split.call.lookups_kept, w.call.lookups_kept);
        hidden = λ o. w.call.hidden (split.call.hidden o);
        observable = λ o. split.call.observable (w.call.observable o);
      };
      down = λ o d s h.
          let at = next_to_put o d s h in
          let seen = w.call.observable o in
          let done =
          (subst (λ cells. SplitsGroup now new level (model_lead lead) key cells (Ok next)) own_is split).split seen
          at.cells at.front at.back at.splitting in
          record {
            pages_are = done.pages_are ∙ ap map_of_pages at.after;
            leads = λ lower is. done.next_is ∙ sym (at.next lower is);
            lookups = cost_down new o d s h (λ cells holds. split.lookups seen cells holds);
          };
    }

  pub put_ends : {now : PagesState} {level : ℕ} {lead : declared.Lead}
      → PutDown old top first key value now level lead → level ≡ 0
      → PutsPairFrom {T = Unit {0}} old now top first key value (Ok (tt {0}))
  put_ends {level = level} w is_0 = record {
    call = w.call;
    put = λ o d s h. (w.down o d s h).pages_are
        ∙ ap (λ k. map_of_pages (pages_between d s (put key_cmp key value s) k)) is_0
        ∙ ap map_of_pages (all_changed d s (put key_cmp key value s));
    lookups = λ o d s h. omega (arith, (w.down o d s h).lookups, levels_within d s key level top (omega arith));
  }

-- ---- a pair taken out

-- what reading the group of a level costs, at or below the key and strictly below it
abbrev cost_at : Draw → List Pair → List ℕ → ℕ → ℕ
cost_at d s key level = group_cost level (group_at_or_below d s level key)

abbrev cost_below : Draw → List Pair → List ℕ → ℕ → ℕ
cost_below d s key level = group_cost level (group_below d s level key)

module _ (old : PagesState) (top : ℕ) (first : Lead) (key : List ℕ) where
  -- what the levels from one on cost, up to this one at or below the key, and strictly below it
  abbrev cost_of_both : Draw → List Pair → ℕ → ℕ
  cost_of_both d s level = levels_cost d s key level (suc top - level)
      + costs_from (cost_below d s key) level (d.height - level)

  both_within : (d : Draw) (s : List Pair) (level : ℕ) → level ≤ top → top < d.height
      → cost_of_both d s level ≤ levels_cost d s key 0 (suc top) + path_cost_below d s key
  both_within d s level low within =
      omega (
        arith,
        levels_within d s key level top (omega arith),
        costs_within (cost_below d s key) level
            d.height (omega arith),
      )

  pub record IsTakenDown (now : PagesState) (level : ℕ) (lead : declared.Lead) (d : Draw) (s : List Pair) : Type 0 where
    pub pages_are : now.pages ≡ map_of_pages (pages_between d s (without key s) level)
    pub leads : (lower : ℕ) → level ≡ suc lower → model_lead lead ≡ leader_behind d lower (below key s)
    pub lookups : now.lookups ≤ old.lookups + cost_of_both d s level

  pub record TakenDown (now : PagesState) (level : ℕ) (lead : declared.Lead) : Type 0 where
    pub call : IsPagesCall {T = Unit {0}} old now (Ok (tt {0}))
    pub down : IsObservable old → (d : Draw) (s : List Pair) → IsTaking d s old.pages top first key
        → IsTakenDown now level lead d s

  pub first_to_take : (d : Draw) (s : List Pair) (h : IsTaking d s old.pages top first key)
      → SetsAt old.pages d top first s (without key s) key [] (below key s)
  first_to_take d s h =
      subst (λ l. SetsAt old.pages d top l s (without key s) key [] (below key s)) (sym h.leads)
      (take_first d s old.pages top first key h
      old.pages (h.holds.map_is ∙ ap map_of_pages (sym (take_begins d s old.pages top first key h))))

  pub room_to_take : (IsObservable old → (d : Draw) × (s : List Pair) × IsTaking d s old.pages top first key)
      → IsObservable old → PagesHaveRoom old.pages top first
  room_to_take place o = let p = place o in (first_to_take p.0 p.1 p.2).room

module _ {old : PagesState} {top : ℕ} {first : Lead} {key : List ℕ} where
  module _ {new : PagesState} {own : List Cell} where
    pub take_not_set : {fault : Fault} → SetsCells old new top first key own (Err fault)
        → TakesPairFrom {T = Unit {0}} old new top first key (Err fault)
    take_not_set set = record {
      call = failed_call set.call;
      taken = λ o d s h. tt;
      lookups = λ o d s h.
          let within = take_within d s old.pages top first key h in
          omega (
            arith,
            cost_of_first old new top first key d s h.holds h.leads within
                (λ cells holds. set.lookups o cells holds),
            both_within old top first key d s top (omega arith) within,
          );
    }

    pub take_starts : {next : declared.Lead} → own ≡ [] → SetsCells old new top first key own (Ok next)
        → TakenDown old top first key new top next
    take_starts {next = next} own_is set = record {
      call = record {
        faults = set.call.faults;
        lookups_kept = set.call.lookups_kept;
        hidden = set.call.hidden;
        observable = set.call.observable;
      };
      down = λ o d s h.
          let at = first_to_take old top first key d s h in
          let done = (subst (λ cells. SetsCells old new top first key cells (Ok next)) own_is set).set o
          at.cells at.front at.back at.setting in
          record {
            pages_are = done.pages_are ∙ ap map_of_pages at.after;
            leads = λ lower is. done.next_is ∙ sym (at.next lower is);
            lookups =
                omega (
                  arith,
                  cost_of_first old new top first key d s
                      h.holds h.leads (take_within d s old.pages top first key h)
                      (λ cells holds. set.lookups o cells holds),
                );
          };
    }

  module _ {now : PagesState} {upper level : ℕ} {lead : declared.Lead}
      (reached : TakenDown old top first key now upper lead) (next_upper : upper ≡ suc level)
      (lower : level < top) where
    abbrev t : TakenDown old top first key now (suc level) lead
    t = subst (λ n. TakenDown old top first key now n lead) next_upper reached

    pub next_to_take : (o : IsObservable old) (d : Draw) (s : List Pair) (h : IsTaking d s old.pages top first key)
        → JoinsAt now.pages d level (model_lead lead) s (without key s) key (below key s) (above key s) (key, h.value)
    next_to_take o d s h =
        let n = t.down o d s h in
        let next : suc level ≡ level + 1 = omega arith in
        subst (λ l. JoinsAt now.pages d level l s (without key s) key (below key s) (above key s) (key, h.value))
        (sym (n.leads level refl))
        (take_below d s old.pages top first key h now.pages level lower
        (n.pages_are ∙ ap (λ k. map_of_pages (pages_between d s (without key s) k)) next))

    module _ (place : IsObservable old → (d : Draw) × (s : List Pair) × IsTaking d s old.pages top first key) where
      pub room_to_join_low : IsObservable now → PagesHaveRoom now.pages level (model_lead lead)
      room_to_join_low o = let p = place (t.call.hidden o) in (next_to_take (t.call.hidden o) p.0 p.1 p.2).room

      pub room_to_join_own : IsObservable now → PagesHaveRoom now.pages level (Leader key)
      room_to_join_own o = let p = place (t.call.hidden o) in (next_to_take (t.call.hidden o) p.0 p.1 p.2).own_room

    -- what reading both groups costs with the levels above
    with_both : (new : PagesState) (o : IsObservable old) (d : Draw) (s : List Pair)
        (h : IsTaking d s old.pages top first key)
        → ((low high : List Cell) → HoldsGroup now.pages level (model_lead lead) low
        → HoldsGroup now.pages level (Leader key) high
        → new.lookups ≤ now.lookups + (group_cost level low + group_cost level high))
        → new.lookups ≤ old.lookups + cost_of_both old top first key d s level
    with_both new o d s h more =
        let at = next_to_take o d s h in
        let under : level < d.level key = omega (arith, h.own) in
        let there = pair_there d s old.pages top first key h in
        let low : group_cost level at.lows ≡ cost_below d s key level =
        ap (group_cost level) (at.lows_are ∙ low_group d level key h.value s there h.holds.pairs under) in
        let high : group_cost level at.highs ≡ cost_at d s key level =
        ap (group_cost level) (at.highs_are ∙ high_group d level key h.value s there h.holds.pairs under) in
        omega (
          arith,
          more at.lows at.highs at.joining.low_holds at.joining.high_holds,
          low,
          high,
          (t.down o d s h).lookups,
          costs_down (cost_at d s key) level (suc top) (omega arith),
          costs_down (cost_below d s key) level d.height (omega (arith, take_within d s old.pages top first key h)),
        )

    pub take_not_joined : {new : PagesState} {fault : Fault}
        → JoinsGroups now new level (model_lead lead) key (Err fault)
        → TakesPairFrom {T = Unit {0}} old new top first key (Err fault)
    take_not_joined {new = new} join = record {
      call = fails_behind t.call join.call;
      taken = λ o d s h. tt;
      lookups = λ o d s h.
          omega (
            arith,
            with_both new o d s h (λ low high a b. join.lookups (t.call.observable o) low high a b),
            both_within old top first key d s level (omega arith) (take_within d s old.pages top first key h),
          );
    }

    pub take_goes_on : {new : PagesState} {next : declared.Lead}
        → JoinsGroups now new level (model_lead lead) key (Ok next)
        → TakenDown old top first key new level next
    take_goes_on {new = new} join = record {
      call = record {
        faults = join.call.faults ∙ t.call.faults;
        lookups_kept = omega (arith, join.call.lookups_kept, t.call.lookups_kept);
        hidden = λ o. t.call.hidden (join.call.hidden o);
        observable = λ o. join.call.observable (t.call.observable o);
      };
      down = λ o d s h.
          let at = next_to_take o d s h in
          let done = join.joined (t.call.observable o) at.lows at.highs at.front at.back at.joining in
          record {
            pages_are = done.pages_are ∙ ap map_of_pages at.after;
            leads = λ lower is. done.next_is ∙ sym (at.next lower is);
            lookups = with_both new o d s h (λ low high a b. join.lookups (t.call.observable o) low high a b);
          };
    }

  pub take_ends : {now : PagesState} {level : ℕ} {lead : declared.Lead}
      → TakenDown old top first key now level lead → level ≡ 0
      → TakesPairFrom {T = Unit {0}} old now top first key (Ok (tt {0}))
  take_ends {level = level} w is_0 = record {
    call = w.call;
    taken = λ o d s h. (w.down o d s h).pages_are ∙ ap (λ k. map_of_pages (pages_between d s (without key s) k)) is_0
        ∙ ap map_of_pages (all_changed d s (without key s));
    lookups = λ o d s h. omega (
      arith,
      (w.down o d s h).lookups,
      both_within old top first key d s level (omega arith)
          (take_within d s old.pages top first key h),
    );
  }
