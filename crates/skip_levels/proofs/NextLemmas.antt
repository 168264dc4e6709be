-- A search for the next pair: for the place of its key, in the lowest group on the search path, and in the first page
-- of the group that follows.
use Rattle.std.proofs.Common.{◌≡◌, ℕ, ◌≤◌, List, [], ◌∷◌, ◌++◌, Option, Some, None, Result, Ok, Err, IfOk, refl, sym}
use Rattle.std.proofs.Common.{ap, subst, ◌∙◌, arith, append_assoc}
use Rattle.std.specs.List.{slice_get}
use Rattle.std.specs.Option.{option_or}
use Rattle.store_base.specs.declared.store_fault.Fault.{Fault}
use Rattle.store_base.specs.Faults.{disk_faults_after}
use Rattle.store_base.specs.declared.label.Lead as declared
use Rattle.store_base.specs.Leads.{model_lead}
use Rattle.store_model.specs.Paths.{key_cmp}
use Rattle.store_model.specs.Draws.{Draw}
use Rattle.store_model.specs.Labels.{Lead}
use Rattle.store_model.specs.Labels.Lead.{Leader}
use Rattle.store_model.specs.Pairs.{Pair}
use Rattle.store_model.specs.Pages.{Cell, Page, group_pages}
use Rattle.store_model.proofs.ListsLemmas.{rising_from_is_sorted}
use Rattle.node_pages.specs.PagesState.{PagesState, IsObservable, IsPageGet}
use Rattle.skip_levels.specs.declared.walk.PathEnd.{PathEnd}
use Rattle.skip_groups.specs.Floors.{floor_of, after_of, pair_in, pair_at}
use Rattle.skip_groups.specs.Groups.{HoldsGroup, label_of}
use Rattle.ordered_pairs.specs.PairsState.{next_pair}
use Rattle.skip_levels.specs.SearchPath.{leader_behind, leader_ahead, not_above, above}
use Rattle.skip_groups.specs.Searches.{seen, ReadsGroup, IsGroupWalk, IsGroupSearch}
use Rattle.skip_levels.specs.Descent.{IsSearched, IsAt, FindsLead, IsPlaceSearch, next_known}
use Rattle.skip_levels.specs.NextSearch.{IsFirstPair, IsNextSearch}
use Rattle.skip_levels.proofs.Descents.{after_of_place}
use Rattle.skip_levels.proofs.Found.{floor_is_last}
use Rattle.skip_levels.proofs.NextPairs.{next_of_sides, no_group_follows, pair_in_group, group_follows, part_ahead}
use Rattle.skip_levels.proofs.NextPairs.{group_begins, pair_leads}
use Rattle.skip_levels.proofs.PathLemmas.{sides_of, side_passes, side_fails, holds_pairs_place}
use Rattle.skip_levels.proofs.PlaceGroups.{group_of_place}
use Rattle.skip_levels.proofs.PathCosts.{path_within}
use Rattle.skip_groups.proofs.GroupSteps.{same_count}
use Rattle.skip_levels.proofs.ValueLemmas.{read_fails, read_told, read_behind, lowest_searched, path_searched}
use Rattle.skip_groups.proofs.Walks.{first_cell, no_first_cell}

-- ---- the first pair of a group

module _ (old new : PagesState) (leader : List ℕ) where
  pub no_first : (fault : Fault) → IsPageGet old new (label_of 0 (Leader leader) 0) (Err fault)
      → IsFirstPair old new leader (Err fault)
  no_first fault get = record {
    faults = get.faults ∙ same_count (Option Page) (Option Pair) old.faults fault;
    lookups_kept = get.lookups_kept;
    lookups_most = get.lookups_most;
    hidden = get.hidden;
    observed = λ o. let g = get.observed o in record {
      observable = g.observable;
      unchanged = g.unchanged;
      found = λ cells holds. tt;
    };
  }

  -- the page that was asked for tells the pair
  first_told : (page : Option Page) (pair : Option Pair) → IsPageGet old new (label_of 0 (Leader leader) 0) (Ok page)
      → ((cells : List Cell) → slice_get (group_pages 0 (Leader leader) cells) 0 ≡ page
      → pair ≡ pair_in (slice_get cells 0)) → IsFirstPair old new leader (Ok pair)
  first_told page pair get told = record {
    faults = get.faults;
    lookups_kept = get.lookups_kept;
    lookups_most = get.lookups_most;
    hidden = get.hidden;
    observed = λ o. let g = get.observed o in record {
      observable = g.observable;
      unchanged = g.unchanged;
      found = λ cells holds. told cells (sym (holds.each 0 (omega arith)) ∙ sym g.found);
    };
  }

  pub first_none : IsPageGet old new (label_of 0 (Leader leader) 0) (Ok None) → IsFirstPair old new leader (Ok None)
  first_none get = first_told None None get
      (λ cells none. ap (λ xs. pair_in (slice_get xs 0)) (sym (no_first_cell (Leader leader) cells none)))

  pub first_some : (page : Page) (cell : Cell) (pair : Option Pair)
      → IsPageGet old new (label_of 0 (Leader leader) 0) (Ok (Some page)) → slice_get page.cells 0 ≡ Some cell
      → pair ≡ pair_in (Some cell) → IsFirstPair old new leader (Ok pair)
  first_some page cell pair get at is =
      first_told (Some page) pair get (λ cells some. is
      ∙ ap pair_in (sym at ∙ first_cell (Leader leader) cells page some))

-- ---- the pair next to a key in a group

-- the cells next to a key tell the first pair from the key on
abbrev pub sees_pair : List ℕ → Cell → Option Pair → Option Pair
sees_pair key cell pair = pair_at key (Some cell)

abbrev pub sees_next : Cell → Option Pair → Option Pair
sees_next cell pair = option_or pair (pair_in (Some cell))

pair_seen : (key : List ℕ) (floor after : Option Cell)
    → seen sees_next after (seen (sees_pair key) floor None) ≡ option_or (pair_at key floor) (pair_in after)
pair_seen key None None = refl
pair_seen key None (Some cell) = refl
pair_seen key (Some cell) None = no_other (pair_at key (Some cell))
  where
    no_other : (o : Option Pair) → o ≡ option_or o None
    no_other None = refl
    no_other (Some pair) = refl
pair_seen key (Some cell) (Some other) = refl

-- what is known leads the next group
leads_next : (d : Draw) (s : List Pair) (key : List ℕ) (known : Option PathEnd) → IsAt d s key known
    → next_known known ≡ leader_ahead d 0 (above key s)
leads_next d s key None at = absurd at
leads_next d s key (Some place) at = at.next

-- ---- the whole search

-- what a call tells of one pair it tells of an equal one
told : (result : Result (Option Pair) Fault) (first_of_group next : Option Pair) → first_of_group ≡ next
    → IfOk result (λ pair. pair ≡ first_of_group) → IfOk result (λ pair. pair ≡ next)
told (Ok pair) first_of_group next same is = is ∙ same
told (Err fault) first_of_group next same is = tt

module _ {old mid : PagesState} {height : ℕ} {known : Option PathEnd} {key : List ℕ} {behind : Option PathEnd}
    (some : 1 ≤ height) where
  pub no_path : {fault : Fault} → IsPlaceSearch old mid height known 0 key behind (Err fault)
      → IsNextSearch old mid height known key behind (Err fault)
  no_path {fault} = read_fails fault (λ n. record {
    observable = n.observable;
    unchanged = n.unchanged;
    found = λ d s held. tt;
    right = n.right;
    lookups = λ d s held. omega (arith, n.lookups d s held, path_within d s key 1 height held.high some);
  })

  module _ {lead : declared.Lead} (h : IsPlaceSearch old mid height known 0 key behind (Ok lead)) {at : Lead}
      (is_lead : at ≡ model_lead lead) where
    leads : FindsLead old mid height known 0 key behind (Ok lead) → (d : Draw) (s : List Pair)
        → IsSearched d s old.pages height known → at ≡ leader_behind d 0 (not_above key s)
    leads n d s held = is_lead ∙ n.lead d s held

    pub no_neighbours : {S : Type 0} {new : PagesState} {fault : Fault} {IsFound : List Cell → Type 0}
        → IsGroupWalk {T = S} mid new 0 at IsFound (Err fault)
        → IsNextSearch old new height known key behind (Err fault)
    no_neighbours {new = new} {fault = fault} search =
        read_fails fault (λ f. f) (read_behind (λ n. n.observable) (λ n g. record {
          observable = g.observable;
          unchanged = g.unchanged ∙ n.unchanged;
          found = λ d s held. tt;
          right = n.right;
          lookups = λ d s held.
              omega (arith, path_searched old mid new height known 0 key behind lead n some at (leads n) g d s held);
        }) h search)

    module _ {S : Type 0} {new : PagesState} {here : Option Pair} {done : S}
        (search : IsGroupSearch (sees_pair key) sees_next mid new 0 at key None here (Ok done)) where
      abbrev Leads : Type 0
      Leads = FindsLead old mid height known 0 key behind (Ok lead)

      abbrev Reads : Type 0
      Reads = ReadsGroup mid new 0 at (λ cells. here
          ≡ seen sees_next (after_of key cells) (seen (sees_pair key) (floor_of key cells) None))

      -- the pair of the key, where the group has it
      abbrev own : (d : Draw) (s : List Pair) → Option Pair
      own d s = pair_at key (floor_of key (group_of_place d 0 (not_above key s) (above key s)))

      -- what the cells next to the key say
      here_is : Leads → Reads → (d : Draw) (s : List Pair) → IsSearched d s old.pages height known
          → here ≡ option_or (own d s) (pair_in (slice_get (part_ahead d (above key s) (own d s)) 0))
      here_is n g d s held =
          let group = group_of_place d 0 (not_above key s) (above key s) in
          lowest_searched old mid new height known 0 key behind lead n some at (leads n) g d s held
          ∙ pair_seen key (floor_of key group) (after_of key group)
          ∙ ap (λ o. option_or (own d s) (pair_in o))
          (after_of_place d 0 key (not_above key s) (above key s) (side_passes d 0 key s) (side_fails d 0 key s))

      next_is : (d : Draw) (s : List Pair) → IsSearched d s old.pages height known
          → option_or (own d s) (slice_get (above key s) 0) ≡ next_pair key s
      next_is d s held =
          ap (λ o. option_or (pair_at key o) (slice_get (above key s) 0)) (floor_is_last d key s)
          ∙ sym (next_of_sides key s (rising_from_is_sorted key_cmp s held.holds.pairs.sorted))

      -- the nearest pair in the group is the next one
      next_told : ((n : Leads) (d : Draw) (s : List Pair) → IsSearched d s old.pages height known
          → here ≡ option_or (own d s) (pair_in (slice_get (part_ahead d (above key s) (own d s)) 0))
          → option_or (own d s) (pair_in (slice_get (part_ahead d (above key s) (own d s)) 0))
          ≡ option_or (own d s) (slice_get (above key s) 0)) → IsNextSearch old new height known key behind (Ok here)
      next_told told = read_told here (read_behind (λ n. n.observable) (λ n g. record {
        observable = g.observable;
        unchanged = g.unchanged ∙ n.unchanged;
        found = λ d s held. let e = here_is n g d s held in e ∙ told n d s held e ∙ next_is d s held;
        right = n.right;
        lookups = λ d s held.
            omega (arith, path_searched old mid new height known 0 key behind lead n some at (leads n) g d s held);
      }) h search)

      -- no group follows
      pub next_is_none : next_known behind ≡ None → here ≡ None → IsNextSearch old new height known key behind (Ok None)
      next_is_none none is =
          subst (λ pair. IsNextSearch old new height known key behind (Ok pair)) is
          (next_told (λ n d s held e. no_group_follows d (above key s) (own d s)
          (sym (leads_next d s key behind (n.place d s held)) ∙ none)))

      -- the pair is in the group
      pub next_in_group : {pair : Pair} → here ≡ Some pair → IsNextSearch old new height known key behind (Ok here)
      next_in_group {pair} at = next_told (λ n d s held e. pair_in_group d (above key s) (own d s) pair (sym e ∙ at))

      -- the pair leads the next group
      module _ {last : PagesState} {leader : List ℕ} (next : next_known behind ≡ Some leader) (none : here ≡ None) where
        -- what the first page of the next group tells
        next_of_leader : (result : Result (Option Pair) Fault) → IsFirstPair new last leader result → Leads → Reads
            → IsObservable new → (d : Draw) (s : List Pair) → IsSearched d s old.pages height known
            → IfOk result (λ pair. pair ≡ next_pair key s)
        next_of_leader result first n g o d s held =
            let low = not_above key s in
            let ahead = group_follows d (above key s) (own d s) leader
            (sym next ∙ leads_next d s key behind (n.place d s held)) (sym (here_is n g d s held) ∙ none) in
            let cells = group_of_place d 0 (low ++ ahead.pair ∷ []) ahead.rest in
            let sides : s ≡ (low ++ ahead.pair ∷ []) ++ ahead.rest =
            sides_of key s (rising_from_is_sorted key_cmp s held.holds.pairs.sorted)
            ∙ ap (λ xs. low ++ xs) ahead.high_is ∙ sym (append_assoc low (ahead.pair ∷ []) ahead.rest) in
            let group : HoldsGroup new.pages 0 (Leader leader) cells =
            subst (λ m. HoldsGroup m 0 (Leader leader) cells) (sym (g.unchanged ∙ n.unchanged))
            (subst (λ l. HoldsGroup old.pages 0 l cells)
            (pair_leads d low ahead.pair ahead.leads ∙ ap Leader (sym ahead.leader_is))
            (holds_pairs_place d s old 0 (low ++ ahead.pair ∷ []) ahead.rest sides
            held.holds (omega (arith, held.high)))) in
            told result (pair_in (slice_get cells 0)) (next_pair key s)
            (ap pair_in (group_begins d low ahead.rest ahead.pair ahead.leads) ∙ sym ahead.answer
            ∙ next_is d s held) ((first.observed o).found cells group)

        pub next_leads : {result : Result (Option Pair) Fault} → IsFirstPair new last leader result
            → IsNextSearch old last height known key behind result
        next_leads {result} first = record {
          faults = first.faults ∙ ap (λ n. disk_faults_after n result) (search.faults ∙ h.faults);
          lookups_kept = omega (arith, h.lookups_kept, search.lookups_kept, first.lookups_kept);
          hidden = λ o. h.hidden (search.hidden (first.hidden o));
          observed = λ o. let n = h.observed o in let g = search.observed n.observable
              in let f = first.observed g.observable in record {
                observable = f.observable;
                unchanged = f.unchanged ∙ g.unchanged ∙ n.unchanged;
                found = next_of_leader result first n g g.observable;
                right = n.right;
                lookups = λ d s held. omega (
                  arith,
                  path_searched old mid new height known 0 key behind lead n some at
                      (leads n) g d s held,
                  first.lookups_most,
                );
              };
        }
