-- A search for the place at which a pair is put: a key above level 0 is there exactly where it leads its group of
-- level 0.
use Rattle.std.proofs.Common.{◌≡◌, ◌⊎◌, inl, inr, ℕ, zero, suc, ◌+◌, ◌<◌, ◌≤◌, List, [], ◌∷◌, map, filter, true, false}
use Rattle.std.proofs.Common.{nat_lt, Bool, Option, Some, None, Result, Ok, Err, Ordering, Less, Equal, Greater, refl}
use Rattle.std.proofs.Common.{sym, ap, subst, ◌∙◌, arith, lt-ltb}
use Rattle.std.specs.Ordering.{is_lt, is_eq}
use Rattle.std.specs.List.{AllByRecursion}
use Rattle.std.specs.FinMap.{find}
use Rattle.std.specs.Cmp.{tied_itself}
use Rattle.std.specs.Cmp.Lexicographic.{nat_list_cmp_total}
use Rattle.store_base.specs.declared.store_fault.Fault.{Fault}
use Rattle.store_base.specs.declared.label.Lead as declared
use Rattle.store_base.specs.Leads.{model_lead}
use Rattle.store_base.specs.declared.label.Lead.TheVariants as leads
use Rattle.store_model.specs.Paths.{key_cmp}
use Rattle.store_model.specs.Draws.{Draw}
use Rattle.store_model.specs.Labels.{Lead}
use Rattle.store_model.specs.Labels.Lead.{Start, Leader}
use Rattle.store_model.specs.Pairs.{Pair, IsPairs}
use Rattle.store_model.proofs.ListsLemmas.{all_filter, all_map, rising_from_is_sorted}
use Rattle.node_pages.proofs.PlaceLemmas.{same_key}
use Rattle.node_pages.specs.PagesState.{PagesState}
use Rattle.skip_levels.specs.declared.walk.PathEnd.{PathEnd}
use Rattle.skip_levels.specs.declared.put_place.PutPlace.{PutPlace}
use Rattle.skip_levels.specs.SearchPath.{last_lead, leader_behind, not_above, below, path_cost}
use Rattle.skip_levels.specs.Descent.{HoldsPairs, IsKnownGroup, IsSearched, FindsLead, IsPlaceSearch, lead_known}
use Rattle.skip_levels.specs.PairChanges.{IsNew, IsThere}
use Rattle.skip_levels.specs.PutPlaces.{IsPutPlace, IsPutSearch, is_leader}
use Rattle.skip_levels.proofs.NextPairs.{pair_leads}
use Rattle.skip_levels.proofs.PairSides.{lacks_pair, has_pair}
use Rattle.skip_levels.proofs.PathCosts.{path_within}
use Rattle.skip_levels.proofs.PathLemmas.{all_kept}
use Rattle.skip_groups.proofs.GroupSteps.{same_count}
use Rattle.skip_levels.proofs.ValueLemmas.{leads_lowest}

-- what holds of some keys holds of the last, which leads
abbrev IsOfLead : (List ℕ → Type 0) → Lead → Type 0
IsOfLead P Start = Unit {0}
IsOfLead P (Leader key) = P key

of_last : (P : List ℕ → Type 0) (keys : List (List ℕ)) → AllByRecursion P keys → IsOfLead P (last_lead keys)
unfolding last_lead
of_last P [] h = tt
of_last P (key ∷ []) h = h.0
of_last P (key ∷ other ∷ keys) h = of_last P (other ∷ keys) h.1

module _ (d : Draw) (s : List Pair) (key : List ℕ) (valid : IsPairs s) where
  -- a key that the list lacks leads no group
  not_lead : find key_cmp key s ≡ None → is_leader key (leader_behind d 0 (not_above key s)) ≡ false
  not_lead none =
      let lacks = lacks_pair key s (rising_from_is_sorted key_cmp s valid.sorted) none in
      let stands = λ (pair : Pair). nat_lt 0 (d.level pair.0) in
      let lower = λ (k : List ℕ). is_lt (key_cmp k key) ≡ true in
      ap (λ xs. is_leader key (leader_behind d 0 xs)) lacks.floor
      ∙ by_lead (leader_behind d 0 (below key s))
      (of_last lower (map (λ (pair : Pair). pair.0) (filter stands (below key s)))
      (all_map (λ (pair : Pair). is_lt (key_cmp pair.0 key) ≡ true) lower (λ pair. pair.0) (λ pair h. h)
      (filter stands (below key s))
      (all_filter _ stands (below key s) (all_kept (λ (pair : Pair). is_lt (key_cmp pair.0 key)) s))))
    where
      by_lead : (l : Lead) → IsOfLead (λ k. is_lt (key_cmp k key) ≡ true) l → is_leader key l ≡ false
      by_lead Start h = refl
      by_lead (Leader k) h = elim (key_cmp k key) as (λ o. is_lt o ≡ true → is_eq o ≡ false) [
        | Less ↦ λ e. refl
        | Equal ↦ λ e. absurd (cc)
        | Greater ↦ λ e. absurd (cc)
      ] h

  -- one above level 0 that the list has leads its group
  leads_own : (value : List ℕ) → find key_cmp key s ≡ Some value → 0 < d.level key
      → leader_behind d 0 (not_above key s) ≡ Leader key
  leads_own value some above =
      ap (leader_behind d 0) (has_pair key value s (rising_from_is_sorted key_cmp s valid.sorted) some).floor
      ∙ pair_leads d (below key s) (key, value) (lt-ltb 0 (d.level key) above)

  pub there_where_lead : is_leader key (leader_behind d 0 (not_above key s)) ≡ true → IsThere s key 0
  there_where_lead leads = by_value (find key_cmp key s) refl
    where
      by_value : (o : Option (List ℕ)) → find key_cmp key s ≡ o → IsThere s key 0
      by_value None none = let wrong = sym leads ∙ not_lead none in absurd (cc)
      by_value (Some value) some = record { value = value; has = some; lowest = refl }

  pub new_or_lowest : is_leader key (leader_behind d 0 (not_above key s)) ≡ false
      → IsNew d s key (d.level key) ⊎ IsThere s key (d.level key)
  new_or_lowest leads_not = by_value (find key_cmp key s) refl
    where
      lowest_of : (value : List ℕ) → find key_cmp key s ≡ Some value → (level : ℕ)
          → d.level key ≡ level → d.level key ≡ 0
      lowest_of value some zero is = is
      lowest_of value some (suc n) is =
          let leads = ap (is_leader key) (leads_own value some (omega (arith, is)))
          ∙ ap is_eq (tied_itself nat_list_cmp_total key) in
          let wrong : true ≡ false = sym leads ∙ leads_not in
          absurd (cc)

      by_value : (o : Option (List ℕ)) → find key_cmp key s ≡ o
          → IsNew d s key (d.level key) ⊎ IsThere s key (d.level key)
      by_value None none = inl (record { lacks = none; own = refl })
      by_value (Some value) some = inr (record {
        value = value;
        has = some;
        lowest = lowest_of value some (d.level key) refl;
      })

-- a key that leads is the lead
leader_is : (key : List ℕ) (l : Lead) → is_leader key l ≡ true → Leader key ≡ l
leader_is key Start e = absurd (cc)
leader_is key (Leader k) e = ap Leader (sym (same_key k key (equal (key_cmp k key) e)))
  where
    equal : (o : Ordering) → is_eq o ≡ true → o ≡ Equal
    equal Less h = absurd (cc)
    equal Equal h = refl
    equal Greater h = absurd (cc)

module _ {d : Draw} {old new : PagesState} {known : Option PathEnd} {key : List ℕ} {behind : Option PathEnd}
    {height : ℕ} (high : height ≡ d.height) (some : 1 ≤ height) where
  within_path : {top : ℕ} {result : Result declared.Lead Fault} → FindsLead old new height known top key behind result
      → (s : List Pair) → HoldsPairs d s old.pages → IsKnownGroup d s known
      → new.lookups ≤ old.lookups + path_cost d s key
  within_path n s holds right =
      let held = n.lookups d s (record { holds = holds; high = high; right = right }) in
      omega (arith, held, path_within d s key 1 height high some)

  pub no_put_place : {top : ℕ} {fault : Fault} → IsPlaceSearch old new height known top key behind (Err fault)
      → IsPutSearch d old new known key behind (Err fault)
  no_put_place {fault = fault} search = record {
    faults = search.faults ∙ same_count declared.Lead PutPlace old.faults fault;
    lookups_kept = search.lookups_kept;
    hidden = search.hidden;
    observed = λ o. let n = search.observed o in record {
      observable = n.observable;
      unchanged = n.unchanged;
      found = λ s holds right. tt;
      place = λ s holds right. tt;
      lookups = within_path n;
    };
  }

  module _ {top : ℕ} (own : top ≡ d.level key) {lead : declared.Lead}
      (search : IsPlaceSearch old new height known top key behind (Ok lead)) where
    -- what is told of the key by whether it leads its group
    leads_as : {b : Bool} (n : FindsLead old new height known top key behind (Ok lead)) (s : List Pair)
        (h : IsSearched d s old.pages height known) → is_leader key (lead_known behind) ≡ b
        → is_leader key (leader_behind d 0 (not_above key s)) ≡ b
    leads_as n s h tells = ap (is_leader key) (sym (leads_lowest d s key behind (n.place d s h))) ∙ tells

    put_place : (place : PutPlace)
        → ((n : FindsLead old new height known top key behind (Ok lead)) (s : List Pair)
        (h : IsSearched d s old.pages height known) → IsPutPlace d s key place)
        → IsPutSearch d old new known key behind (Ok place)
    put_place place found = record {
      faults = search.faults;
      lookups_kept = search.lookups_kept;
      hidden = search.hidden;
      observed = λ o. let n = search.observed o in record {
        observable = n.observable;
        unchanged = n.unchanged;
        found = λ s holds right. found n s (record { holds = holds; high = high; right = right });
        place = λ s holds right. n.place d s (record { holds = holds; high = high; right = right });
        lookups = within_path n;
      };
    }

    -- on level 0 a key that is there and one that is new are put alike
    pub place_of_lowest : {first : declared.Lead} → top ≡ 0 → model_lead first ≡ model_lead lead
        → IsPutSearch d old new known key behind (Ok (record { top = 0; lead = first }))
    place_of_lowest {first} lowest is = put_place (record { top = 0; lead = first }) (λ n s h.
        record {
          lead = is ∙ subst (λ k. model_lead lead ≡ leader_behind d k (not_above key s)) lowest (n.lead d s h);
          own = by_value s (find key_cmp key s) refl;
        })
      where
        by_value : (s : List Pair) (o : Option (List ℕ)) → find key_cmp key s ≡ o → IsNew d s key 0 ⊎ IsThere s key 0
        by_value s None none = inl (record { lacks = none; own = sym lowest ∙ own })
        by_value s (Some value) some = inr (record { value = value; has = some; lowest = refl })

    pub place_of_lead : is_leader key (lead_known behind) ≡ true
        → IsPutSearch d old new known key behind (Ok (record { top = 0; lead = leads.Key key }))
    place_of_lead tells = put_place (record { top = 0; lead = leads.Key key }) (λ n s h.
        let leads_it = leads_as n s h tells in
        record {
          lead = leader_is key (leader_behind d 0 (not_above key s)) leads_it;
          own = inr (there_where_lead d s key h.holds.pairs leads_it);
        })

    pub place_of_own : is_leader key (lead_known behind) ≡ false
        → IsPutSearch d old new known key behind (Ok (record { top = top; lead = lead }))
    place_of_own tells = put_place (record { top = top; lead = lead }) (λ n s h.
        record {
          lead = n.lead d s h;
          own = subst (λ level. IsNew d s key level ⊎ IsThere s key level) (sym own)
              (new_or_lowest d s key h.holds.pairs (leads_as n s h tells));
        })
