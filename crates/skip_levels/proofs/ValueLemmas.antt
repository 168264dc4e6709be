-- A search for the value of a key: for its place on level 0, and then the lowest group on the search path.
use Rattle.std.proofs.Common.{◌≡◌, ℕ, ◌+◌, ◌-◌, ◌≤◌, List, true, false, Option, Some, None, Result, Ok, Err, refl, sym}
use Rattle.std.proofs.Common.{ap, subst, ◌∙◌, arith}
use Rattle.store_base.specs.declared.store_fault.Fault.{Fault}
use Rattle.skip_levels.specs.declared.walk.PathEnd.{PathEnd}
use Rattle.store_base.specs.Faults.{disk_faults_after}
use Rattle.store_base.specs.declared.label.Lead as declared
use Rattle.store_model.specs.Labels.{Lead}
use Rattle.std.specs.Option.{is_some}
use Rattle.store_model.specs.Paths.{key_cmp}
use Rattle.store_model.specs.Draws.{Draw}
use Rattle.store_model.specs.Pairs.{Pair}
use Rattle.store_model.specs.Pages.{Cell}
use Rattle.store_model.proofs.ListsLemmas.{rising_from_is_sorted}
use Rattle.node_pages.specs.PagesState.{PagesState, IsObservable}
use Rattle.skip_groups.specs.Floors.{floor_of, after_of, value_at}
use Rattle.skip_groups.specs.Groups.{HoldsGroup}
use Rattle.skip_levels.specs.SearchPath.{above, leader_behind, not_above, levels_cost, path_cost}
use Rattle.skip_groups.specs.Searches.{seen, IsPagesRead, ReadsGroup, IsGroupWalk, IsGroupSearch}
use Rattle.skip_levels.specs.Descent.{IsSearched, IsAt, FindsLead, IsPlaceSearch, IsKeySearch, lead_known}
use Rattle.skip_levels.proofs.PlaceGroups.{group_of_place}
use Rattle.skip_levels.proofs.PathLemmas.{holds_path, few_on_path}
use Rattle.skip_levels.proofs.PathCosts.{path_within, cost_of_level}
use Rattle.skip_levels.proofs.Found.{value_of_floor}
use Rattle.skip_groups.proofs.GroupSteps.{same_count}

-- ---- calls that read pages

-- one that fails, whatever it was to answer
pub read_fails : {A C X Z : Type 0} {old new : PagesState} (fault : Fault) → (X → Z)
    → IsPagesRead {T = A} old new X (Err fault) → IsPagesRead {T = C} old new Z (Err fault)
read_fails {A} {C} {old = old} fault leaves h = record {
  faults = h.faults ∙ same_count A C old.faults fault;
  lookups_kept = h.lookups_kept;
  hidden = h.hidden;
  observed = λ o. leaves (h.observed o);
}

-- one with another answer
pub read_told : {A C X : Type 0} {old new : PagesState} {a : A} (answer : C) → IsPagesRead old new X (Ok a)
    → IsPagesRead old new X (Ok answer)
read_told answer h = record {
  faults = h.faults;
  lookups_kept = h.lookups_kept;
  hidden = h.hidden;
  observed = h.observed;
}

-- one behind another
pub read_behind : {A B X Y Z : Type 0} {old mid new : PagesState} {a : A} {result : Result B Fault}
    → (X → IsObservable mid) → (X → Y → Z) → IsPagesRead old mid X (Ok a) → IsPagesRead mid new Y result
    → IsPagesRead old new Z result
read_behind {result = result} seen leaves h g = record {
  faults = g.faults ∙ ap (λ n. disk_faults_after n result) h.faults;
  lookups_kept = omega (arith, h.lookups_kept, g.lookups_kept);
  hidden = λ o. h.hidden (g.hidden o);
  observed = λ o. let n = h.observed o in leaves n (g.observed (seen n));
}

-- whether there is one
pub some_from_test : {A : Type 0} (o : Option A) → is_some o ≡ true → (a : A) × (o ≡ Some a)
some_from_test None e = absurd (cc)
some_from_test (Some a) e = (a, refl)

pub none_from_test : {A : Type 0} (o : Option A) → is_some o ≡ false → o ≡ None
none_from_test None e = refl
none_from_test (Some a) e = absurd (cc)

-- ---- the lowest group

-- what is known leads it
pub leads_lowest : (d : Draw) (s : List Pair) (key : List ℕ) (known : Option PathEnd) → IsAt d s key known
    → lead_known known ≡ leader_behind d 0 (not_above key s)
leads_lowest d s key None at = absurd at
leads_lowest d s key (Some place) at = at.lead

module _ (old mid new : PagesState) (height : ℕ) (known : Option PathEnd) (top : ℕ) (key : List ℕ)
    (behind : Option PathEnd) (lead : declared.Lead)
    (n : FindsLead old mid height known top key behind (Ok lead)) (some : 1 ≤ height)
    (at : Lead) (leads : (d : Draw) (s : List Pair) → IsSearched d s old.pages height known
    → at ≡ leader_behind d 0 (not_above key s)) {IsFound : List Cell → Type 0} (g : ReadsGroup mid new 0 at IsFound)
    (d : Draw) (s : List Pair) (held : IsSearched d s old.pages height known) where
  abbrev lowest : List Cell
  lowest = group_of_place d 0 (not_above key s) (above key s)

  holds_lowest : HoldsGroup mid.pages 0 at lowest
  holds_lowest = subst (λ m. HoldsGroup m 0 at lowest) (sym n.unchanged)
      (subst (λ l. HoldsGroup old.pages 0 l lowest) (sym (leads d s held))
      (holds_path d s old 0 key held.holds (omega (arith, held.high))))

  -- what the search of it finds
  pub lowest_searched : IsFound lowest
  lowest_searched = g.found lowest holds_lowest (few_on_path d s old 0 key held.holds)

  -- and what it all costs
  pub path_searched : new.lookups ≤ old.lookups + path_cost d s key
  path_searched =
      let whole : levels_cost d s key 0 (height - 0) ≡ path_cost d s key = let count : height - 0 ≡ d.height =
      omega (arith, held.high) in ap (levels_cost d s key 0) count in
      omega (
        arith,
        g.lookups lowest holds_lowest,
        n.lookups d s held,
        cost_of_level d s key 0 height
            held.holds.pairs some,
        whole,
      )

-- ---- the value of a key

-- of the cells next to a key, the one that is not above it tells its value
abbrev pub sees_value : List ℕ → Cell → Option (List ℕ) → Option (List ℕ)
sees_value key cell value = value_at key (Some cell)

abbrev pub sees_no_more : Cell → Option (List ℕ) → Option (List ℕ)
sees_no_more cell value = value

value_seen : (key : List ℕ) (floor after : Option Cell)
    → seen sees_no_more after (seen (sees_value key) floor None) ≡ value_at key floor
value_seen key None None = refl
value_seen key None (Some cell) = refl
value_seen key (Some cell) None = refl
value_seen key (Some cell) (Some other) = refl

module _ {old mid : PagesState} {height : ℕ} {known : Option PathEnd} {top : ℕ} {key : List ℕ} {behind : Option PathEnd}
    (some : 1 ≤ height) where
  pub no_lead : {fault : Fault} → IsPlaceSearch old mid height known top key behind (Err fault)
      → IsKeySearch old mid height known top key behind (Err fault)
  no_lead {fault} = read_fails fault (λ n. record {
    observable = n.observable;
    unchanged = n.unchanged;
    found = λ d s held. tt;
    place = λ d s held. tt;
    right = n.right;
    lookups = λ d s held. omega (arith, n.lookups d s held, path_within d s key 1 height held.high some);
  })

  module _ {lead : declared.Lead} (h : IsPlaceSearch old mid height known top key behind (Ok lead)) {at : Lead}
      (is : at ≡ lead_known behind) where
    leads : FindsLead old mid height known top key behind (Ok lead) → (d : Draw) (s : List Pair)
        → IsSearched d s old.pages height known → at ≡ leader_behind d 0 (not_above key s)
    leads n d s held = is ∙ leads_lowest d s key behind (n.place d s held)

    pub no_value : {S : Type 0} {new : PagesState} {fault : Fault} {IsFound : List Cell → Type 0}
        → IsGroupWalk {T = S} mid new 0 at IsFound (Err fault)
        → IsKeySearch old new height known top key behind (Err fault)
    no_value {new = new} {fault = fault} search =
        read_fails fault (λ f. f) (read_behind (λ n. n.observable) (λ n g. record {
          observable = g.observable;
          unchanged = g.unchanged ∙ n.unchanged;
          found = λ d s held. tt;
          place = λ d s held. tt;
          right = n.right;
          lookups = path_searched old mid new height known top key behind lead n some at (leads n) g;
        }) h search)

    pub place_found : {S : Type 0} {new : PagesState} {done : S} {value : Option (List ℕ)}
        → IsGroupSearch (sees_value key) sees_no_more mid new 0 at key None value (Ok done)
        → IsKeySearch old new height known top key behind (Ok (record { lead = lead; value = value }))
    place_found {new = new} {value = value} search = read_told (record { lead = lead; value = value })
        (read_behind (λ n. n.observable) (λ n g. record {
          observable = g.observable;
          unchanged = g.unchanged ∙ n.unchanged;
          found = λ d s held.
              let group = group_of_place d 0 (not_above key s) (above key s) in
              record {
                lead = n.lead d s held;
                value = lowest_searched old mid new height known top key behind lead n some at (leads n) g d s held
                    ∙ value_seen key (floor_of key group) (after_of key group)
                    ∙ value_of_floor d key s (rising_from_is_sorted key_cmp s held.holds.pairs.sorted);
              };
          place = n.place;
          right = n.right;
          lookups = path_searched old mid new height known top key behind lead n some at (leads n) g;
        }) h search)
