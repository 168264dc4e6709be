-- A pair put or taken out where a search found its place.
use Rattle.std.proofs.Common.{◌≡◌, inl, inr, ℕ, ◌+◌, ◌<◌, ◌≤◌, List, length, Option, Some, None, Result, Ok, Err, refl}
use Rattle.std.proofs.Common.{sym, ap, subst, ◌∙◌, arith}
use Rattle.store_base.specs.declared.store_fault.Fault.{Fault}
use Rattle.store_base.specs.Faults.{disk_faults_after}
use Rattle.store_base.specs.Keys.{IsKey}
use Rattle.store_base.specs.Leads.{model_lead}
use Rattle.store_model.specs.Paths.{key_cmp}
use Rattle.store_model.specs.Draws.{Draw}
use Rattle.store_model.specs.Pairs.{Pair, IsValue}
use Rattle.store_model.specs.PageMaps.{map_of_pages}
use Rattle.store_model.specs.Pages.{pages_of_pairs}
use Rattle.store_model.proofs.ListsLemmas.{rising_from_is_sorted}
use Rattle.node_pages.specs.PagesState.{PagesState, IsObservable}
use Rattle.skip_levels.specs.declared.walk.KeyPlace.{KeyPlace}
use Rattle.skip_levels.specs.declared.walk.PathEnd.{PathEnd}
use Rattle.skip_levels.specs.declared.put_place.PutPlace.{PutPlace}
use Rattle.skip_levels.specs.CellChanges.{IsPagesCall}
use Rattle.skip_levels.specs.Descent.{HoldsPairs, IsKnownGroup, IsSearched, IsKeyPlace, IsKeySearch}
use Rattle.skip_levels.specs.PagePairs.{pairs_of_map}
use Rattle.skip_levels.specs.PairChanges.{IsPutting, IsTaking, PutsPairFrom, TakesPairFrom, PutsPairIn, TakesPairIn}
use Rattle.ordered_pairs.specs.PairsState.{most_pairs, without}
use Rattle.skip_levels.specs.PutPlaces.{IsPutPlace, IsPutSearch, behind}
use Rattle.skip_levels.specs.SearchPath.{path_cost, path_cost_below, low_cost}
use Rattle.skip_levels.proofs.KnownBehind.{known_by_put, known_by_take}
use Rattle.skip_levels.proofs.PairSides.{lacks_pair}
use Rattle.skip_levels.proofs.PathCosts.{levels_up_to}
use Rattle.ordered_pairs.proofs.ValidLemmas.{IsPairs-put, IsPairs-without}
use Rattle.skip_groups.proofs.GroupSteps.{same_count}

-- one call behind a search, which leaves the faults as they were
call_behind : {S T : Type 0} (old mid new : PagesState) → mid.faults ≡ old.faults → old.lookups ≤ mid.lookups
    → (IsObservable mid → IsObservable old) → (IsObservable old → IsObservable mid)
    → (first : Result S Fault) (result : Result T Fault)
    → disk_faults_after {T = S} old.faults first ≡ disk_faults_after {T = T} old.faults result
    → IsPagesCall mid new first → IsPagesCall old new result
call_behind old mid new faults lookups hidden observable first result same call = record {
  faults = call.faults ∙ ap (λ n. disk_faults_after n first) faults ∙ same;
  lookups_kept = omega (arith, call.lookups_kept, lookups);
  hidden = λ o. hidden (call.hidden o);
  observable = λ o. call.observable (observable o);
}

module _ (d : Draw) (old mid : PagesState) (known : Option PathEnd) (key : List ℕ) (behind_search : Option PathEnd)
    (whole : IsObservable old → HoldsPairs d (pairs_of_map old.pages) old.pages)
    (right : IsObservable old → IsKnownGroup d (pairs_of_map old.pages) known) where
  abbrev s : List Pair
  s = pairs_of_map old.pages

  -- ---- a put

  module _ (value : List ℕ) where
    pub no_place_to_put : {T : Type 0} (fault : Fault) → IsPutSearch d old mid known key behind_search (Err fault)
        → PutsPairIn {T = T} d old mid key value behind_search (Err fault)
    no_place_to_put {T} fault search = record {
      call = record {
        faults = search.faults ∙ same_count PutPlace T old.faults fault;
        lookups_kept = search.lookups_kept;
        hidden = search.hidden;
        observable = λ o. (search.observed o).observable;
      };
      known = λ o. tt;
      put = λ o. tt;
      lookups = λ o. omega (arith, (search.observed o).lookups s (whole o) (right o));
    }

    module _ (place : PutPlace) (search : IsPutSearch d old mid known key behind_search (Ok place))
        (room : IsObservable old → length s < most_pairs) where
      at : IsObservable old → IsPutPlace d s key place
      at o = (search.observed o).found s (whole o) (right o)

      -- from there on a value is put
      pub is_putting : (o : IsObservable old) → IsPutting d s mid.pages place.top (model_lead place.lead) key
      is_putting o = record {
        holds = subst (HoldsPairs d s) (sym (search.observed o).unchanged) (whole o);
        leads = (at o).lead;
        room = room o;
        place = (at o).own;
      }

      pub may_put : IsObservable mid → (e : Draw) × (t : List Pair)
          × IsPutting e t mid.pages place.top (model_lead place.lead) key
      may_put o = (d, s, is_putting (search.hidden o))

      -- the level is the key's own at most
      top_within : IsObservable old → place.top ≤ d.level key
      top_within o = elim (at o).own [
        | inl new ↦ let own = new.own in omega arith
        | inr there ↦ let lowest =
            there.lowest in omega arith
      ]

      -- what both cost
      cost_of_put : {T : Type 0} (new : PagesState) (result : Result T Fault)
          → PutsPairFrom mid new place.top (model_lead place.lead) key value result → (o : IsObservable old)
          → new.lookups ≤ old.lookups + (path_cost d s key + low_cost d s key)
      cost_of_put new result puts o =
          let n = search.observed o in
          omega (
            arith,
            puts.lookups n.observable d s (is_putting o),
            n.lookups s (whole o)
                (right o),
            levels_up_to d s key place.top (d.level key) (top_within o),
          )

      pub pair_not_put : {T : Type 0} (new : PagesState) (fault : Fault)
          → PutsPairFrom {T = T} mid new place.top (model_lead place.lead) key value (Err fault)
          → PutsPairIn {T = T} d old new key value behind_search (Err fault)
      pair_not_put {T} new fault puts = record {
        call = call_behind old mid new search.faults search.lookups_kept search.hidden
            (λ o. (search.observed o).observable) (Err fault) (Err fault) (same_count T T old.faults fault) puts.call;
        known = λ o. tt;
        put = λ o. tt;
        lookups = cost_of_put new (Err fault) puts;
      }

      pub pair_put : {T : Type 0} (new : PagesState) (unit : T) → IsKey key → IsValue value
          → PutsPairFrom mid new place.top (model_lead place.lead) key value (Ok unit)
          → PutsPairIn d old new key value (behind place.top key behind_search) (Ok unit)
      pair_put new unit is_key is_value puts = record {
        call = call_behind old mid new search.faults search.lookups_kept search.hidden
            (λ o. (search.observed o).observable) (Ok unit) (Ok unit) refl puts.call;
        known = λ o. known_by_put d s key value
            (whole o).pairs (IsPairs-put key value s is_key is_value (whole o).pairs) place (at o) behind_search
            ((search.observed o).place s (whole o) (right o));
        put = λ o. puts.put (search.observed o).observable d s (is_putting o);
        lookups = cost_of_put new (Ok unit) puts;
      }

      -- on level 0 the place stays known
      pub lowest_put : {T : Type 0} (new : PagesState) → IsKey key → IsValue value → (result : Result T Fault)
          → place.top ≡ 0 → PutsPairFrom mid new place.top (model_lead place.lead) key value result
          → PutsPairIn d old new key value behind_search result
      lowest_put new is_key is_value (Ok unit) lowest puts =
          subst (λ top. PutsPairIn d old new key value (behind top key behind_search) (Ok unit)) lowest
          (pair_put new unit is_key is_value puts)
      lowest_put new is_key is_value (Err fault) lowest puts = pair_not_put new fault puts

  -- ---- a pair taken out

  module _ (height top : ℕ) (high : height ≡ d.height) (own : top ≡ d.level key) where
    searches : IsObservable old → IsSearched d s old.pages height known
    searches o = record { holds = whole o; high = high; right = right o }

    pub not_found : (fault : Fault) → IsKeySearch old mid height known top key behind_search (Err fault)
        → TakesPairIn d old mid key behind_search (Err fault)
    not_found fault search = record {
      call = record {
        faults = search.faults ∙ same_count KeyPlace (Option (List ℕ)) old.faults fault;
        lookups_kept = search.lookups_kept;
        hidden = search.hidden;
        observable = λ o. (search.observed o).observable;
      };
      found = λ o. tt;
      taken = λ o. tt;
      known = λ o. tt;
      lookups = λ o. let cost = (search.observed o).lookups d s (searches o) in omega arith;
    }

    module _ (place : KeyPlace) (search : IsKeySearch old mid height known top key behind_search (Ok place)) where
      found : IsObservable old → IsKeyPlace d s top key place
      found o = (search.observed o).found d s (searches o)

      searched : (o : IsObservable old) → mid.lookups ≤ old.lookups + path_cost d s key
      searched o = (search.observed o).lookups d s (searches o)

      pub is_taken : (value : List ℕ) → place.value ≡ Some value → (o : IsObservable old)
          → IsTaking d s mid.pages top (model_lead place.lead) key
      is_taken value some o = record {
        holds = subst (HoldsPairs d s) (sym (search.observed o).unchanged) (whole o);
        leads = (found o).lead;
        value = value;
        has = sym (found o).value ∙ some;
        own = own;
      }

      -- the cost of both searches
      cost_of_take : {T : Type 0} (new : PagesState) (result : Result T Fault) (value : List ℕ)
          (some : place.value ≡ Some value) (o : IsObservable old)
          → TakesPairFrom mid new top (model_lead place.lead) key result
          → new.lookups ≤ old.lookups + (path_cost d s key + (low_cost d s key + path_cost_below d s key))
      cost_of_take new result value some o takes =
          omega (
            arith,
            takes.lookups (search.observed o).observable d s
                (is_taken value some o),
            searched o,
            levels_up_to d s key top (d.level key) (omega arith),
          )

      pub pair_taken : {T : Type 0} (new : PagesState) (unit : T) (value : List ℕ) (behind_take : Option PathEnd)
          → place.value ≡ Some value → TakesPairFrom mid new top (model_lead place.lead) key (Ok unit)
          → (IsObservable old → IsKnownGroup d (without key s) behind_take)
          → TakesPairIn d old new key behind_take (Ok (Some value))
      pair_taken new unit value behind_take some takes known_behind =
          record {
            call = call_behind old mid new search.faults search.lookups_kept search.hidden
                (λ o. (search.observed o).observable) (Ok unit) (Ok (Some value)) refl takes.call;
            found = λ o. sym some ∙ (found o).value;
            taken = λ o. takes.taken (search.observed o).observable d s (is_taken value some o);
            known = known_behind;
            lookups = λ o. cost_of_take new (Ok unit) value some o takes;
          }

      -- a key of level 0 leaves the place known
      pub known_still : (value : List ℕ) → place.value ≡ Some value → top ≡ 0 → IsObservable old
          → IsKnownGroup d (without key s) behind_search
      known_still value some lowest o =
          known_by_take d s key value (whole o).pairs (IsPairs-without key s (whole o).pairs)
          (sym (found o).value ∙ some) behind_search (sym own ∙ lowest) ((search.observed o).place d s (searches o))

      pub pair_not_taken : {T : Type 0} (new : PagesState) (fault : Fault) (value : List ℕ) → place.value ≡ Some value
          → TakesPairFrom {T = T} mid new top (model_lead place.lead) key (Err fault)
          → TakesPairIn d old new key behind_search (Err fault)
      pair_not_taken {T} new fault value some takes = record {
        call = call_behind old mid new search.faults search.lookups_kept search.hidden
            (λ o. (search.observed o).observable) (Err fault) (Err fault)
            (same_count T (Option (List ℕ)) old.faults fault) takes.call;
        found = λ o. tt;
        taken = λ o. tt;
        known = λ o. tt;
        lookups = λ o. cost_of_take new (Err fault) value some o takes;
      }

      -- a list that lacks the key stays as it was
      pub none_to_take : place.value ≡ None → TakesPairIn d old mid key behind_search (Ok None)
      none_to_take none = record {
        call = record {
          faults = search.faults;
          lookups_kept = search.lookups_kept;
          hidden = search.hidden;
          observable = λ o. (search.observed o).observable;
        };
        found = λ o. sym none ∙ (found o).value;
        taken = λ o. (search.observed o).unchanged ∙ (whole o).map_is
            ∙ ap (λ pairs. map_of_pages (pages_of_pairs d pairs)) (sym (kept o));
        known = λ o. subst (λ pairs. IsKnownGroup d pairs behind_search) (sym (kept o))
            ((search.observed o).right d s (searches o));
        lookups = λ o. let cost = searched o in omega arith;
      }
        where
          kept : IsObservable old → without key s ≡ s
          kept o = (lacks_pair key s (rising_from_is_sorted key_cmp s (whole o).pairs.sorted)
              (sym (found o).value ∙ none)).kept
