-- A call of a stream, from the reads that it makes.
use Rattle.std.proofs.Common.{◌≡◌, ℕ, ◌+◌, ◌/◌, ◌%◌, ◌<◌, ◌≤◌, List, [], ◌∷◌, ◌++◌, length, Option, Some}
use Rattle.std.proofs.Common.{None}
use Rattle.std.proofs.Common.{Result, Ok, Err, true, false, cond, nat_eq, refl, sym, ap, ap₂, subst, ◌∙◌, arith}
use Rattle.std.proofs.Common.{append-nil, append_assoc, length-append}
use Rattle.std.specs.List.{slice_get}
use Rattle.std.specs.Option.{IfSome}
use Rattle.std.proofs.lemmas.Option.{IfSome_then}
use Rattle.store_base.specs.declared.store_fault.Fault.{Fault}
use Rattle.store_base.specs.declared.label.Lead.TheVariants as leads
use Rattle.store_base.specs.Leads.{model_lead}
use Rattle.store_model.specs.Draws.{Draw, IsLawful}
use Rattle.store_model.specs.Labels.Lead.{Leader}
use Rattle.store_model.specs.Pairs.{Pair}
use Rattle.store_model.specs.Pages.{Cell, Page, cell_on, leads_group, page_room}
use Rattle.store_model.specs.PageMaps.{PageMap, page_at}
use Rattle.node_pages.specs.PagesState.{PagesState}
use Rattle.layout_scratch.proofs.OneMoreKey.{level_takes, opens}
use Rattle.skip_groups.specs.Floors.{pair_in}
use Rattle.skip_groups.specs.Groups.{HoldsGroup, label_of}
use Rattle.skip_groups.specs.Searches.{IsPagesRead}
use Rattle.skip_levels.specs.Descent.{HoldsPairs}
use Rattle.skip_levels.specs.SearchPath.{leader_behind}
use Rattle.skip_levels.proofs.NextPairs.{group_begins, pair_leads}
use Rattle.skip_levels.proofs.PathLemmas.{holds_pairs_place}
use Rattle.skip_levels.proofs.PlaceGroups.{group_of_place}
use Rattle.skip_levels.proofs.ValueLemmas.{read_told, read_behind}
use Rattle.pair_stream.specs.GroupReads.{IsHeld, page_ahead, turn_cost, ReadsPair, IsPairRead}
use Rattle.pair_stream.specs.Streams.{IsReadTo, AreReadTo, StandsBehind, PassesPair, LeadsBelow, IsNextKey, FindsLeader}
use Rattle.pair_stream.specs.Streams.{IsLeaderSearch, stream_cost, IsNextCall}
use Rattle.pair_stream.specs.declared.places.LevelPlace.{LevelPlace}
use Rattle.pair_stream.specs.declared.places.PairStream.{PairStream}
use Rattle.pair_stream.proofs.Costs.{pair_costs, leader_costs}
use Rattle.pair_stream.proofs.NextPairs.{read_to, group_held, next_cell, next_pair_is, leads_from_none}
use Rattle.pair_stream.proofs.Passed.{ahead, leader_same}
use Rattle.std.proofs.Common.{lt-ltb}

-- a call that gave a pair or failed did not give none
not_none : (p : Pair) → ◌≡◌ {A = Result (Option Pair) Fault} (Ok (Some p)) (Ok None) → ⊥
not_none p e = cc

not_ok : (f : Fault) → ◌≡◌ {A = Result (Option Pair) Fault} (Err f) (Ok None) → ⊥
not_ok f e = cc

-- a stream with another page
pub record IsWithPage (stream : PairStream) (held : Option Page) (after : PairStream) : Type 0 where
  pub height : after.height ≡ stream.height
  pub places : after.places ≡ stream.places
  pub page : after.page ≡ held

-- at most one page is asked for
turn_within : (place : LevelPlace) → turn_cost place ≤ 1
turn_within place = elim (nat_eq (place.count % page_room 0) 0) as
    (λ b. cond b 1 0 ≤ 1) [ true ↦ omega arith | false ↦ omega arith ]

-- a list has some level
some_level : {d : Draw} → IsLawful d → 0 < d.height
some_level lawful = omega (arith, lawful.level_in_range [])

-- the page that holds the last pair of a group is that of the next one too, unless this one is the first of a page
held_on : (m : PageMap) (old new : LevelPlace) (held : Option Page) → model_lead new.lead ≡ model_lead old.lead
    → new.count ≡ old.count + 1 → held ≡ page_ahead m old → IsHeld m new held
held_on m old new held lead count is = λ within.
    is ∙ ap₂ (λ l i. page_at m (label_of 0 l i)) (sym lead) (let e : old.count / 10 ≡ new.count / 10 =
    omega (arith, within) in e)

module _ {d : Draw} {s : List Pair} {m : PageMap} {passed : List Pair} {stream : PairStream} {here : LevelPlace}
    (at : slice_get stream.places 0 ≡ Some here) (h : StandsBehind d s m passed stream) where
  is_held : IsHeld m here stream.page
  is_held = subst (λ o. IfSome o (λ place. IsHeld m place stream.page)) at h.page

  -- with the page of the next pair it stands where it stood
  stays : {page : Option Page} {after : PairStream} → IsWithPage stream page after → IsHeld m here page
      → StandsBehind d s m passed after
  stays {page} {after} w is = record {
    holds = h.holds;
    height = w.height ∙ h.height;
    left = h.left;
    parts = h.parts;
    places = subst (λ ps. AreReadTo d passed ps) (sym w.places) h.places;
    page = subst (λ ps. IfSome (slice_get ps 0) (λ place. IsHeld m place after.page)) (sym w.places)
        (subst (λ o. IfSome o (λ place. IsHeld m place after.page)) (sym at)
        (subst (λ p. IsHeld m here p) (sym w.page) is));
  }

  -- behind no pair more
  stays_behind : {page : Option Page} {after : PairStream} → IsWithPage stream page after → IsHeld m here page
      → StandsBehind d s m (passed ++ []) after
  stays_behind {after = after} w is = subst (λ ps. StandsBehind d s m ps after) (sym (append-nil passed)) (stays w is)

  -- behind one pair more
  stands_on : {page : Option Page} {turned after : PairStream} {level : ℕ} {key : List ℕ} (pair : Pair)
      (rest : List Pair) → s ≡ passed ++ pair ∷ rest → IsWithPage stream page turned → PassesPair level key turned after
      → key ≡ pair.0 → level ≡ d.level pair.0
      → ((new : LevelPlace) → IsReadTo d (passed ++ pair ∷ []) 0 new → IsHeld m new page)
      → StandsBehind d s m (passed ++ pair ∷ []) after
  stands_on {after = after} pair rest parts w passes key level next =
      let below = h.holds.lawful.level_in_range pair.0 in
      let places = passes.places d passed pair (w.height ∙ h.height) (omega (arith, level, below))
      (subst (λ ps. AreReadTo d passed ps) (sym w.places) h.places)
      (omega (arith, h.holds.few, ap length parts, length-append passed (pair ∷ rest))) key level in
      record {
        holds = h.holds;
        height = passes.height ∙ w.height ∙ h.height;
        left = rest;
        parts = parts ∙ sym (append_assoc passed (pair ∷ []) rest);
        places = places;
        page = subst (λ p. IfSome (slice_get after.places 0) (λ place. IsHeld m place p)) (sym (passes.page ∙ w.page))
            (IfSome_then (slice_get after.places 0) (places 0 (some_level h.holds.lawful)) next);
      }

-- what is asked for in vain
in_vain : (d : Draw) (passed : List Pair) (old new n vain : ℕ) → new ≤ old + n → n ≤ vain
    → new + stream_cost d passed ≤ old + stream_cost d (passed ++ []) + vain
in_vain d passed old new n vain lookups within =
    let same = ap (stream_cost d) (append-nil passed) in omega (arith, lookups, within, same)

module _ {old mid : PagesState} {stream : PairStream} {here : LevelPlace} (at : slice_get stream.places 0 ≡ Some here)
    {held : Option Page} where
  -- ---- the group of level 0

  module _ {result : Option Pair} (r : ReadsPair old mid here stream.page held (Ok result)) (d : Draw)
      (s passed : List Pair) (h : StandsBehind d s old.pages passed stream) where
    -- the page is held
    page_is : held ≡ page_ahead old.pages here
    page_is = r.turns.held (is_held at h)

    -- what is told of the next cell
    told : result ≡ pair_in (slice_get (ahead d 0 h.left) 0)
    told = let below = some_level h.holds.lawful in
        r.found (is_held at h) (group_of_place d 0 passed h.left) (group_held h 0 here at below old refl)
        ∙ ap pair_in (next_cell h 0 here at below)

  pub gives_in_group : {pair : Pair} {turned after : PairStream}
      → IsPairRead old mid here stream.page held (Ok (Some pair))
      → PassesPair 0 pair.0 turned after → IsWithPage stream held turned
      → IsNextCall old mid stream after (Ok (Some pair))
  gives_in_group {pair} read passes w = record {
    faults = read.faults;
    lookups_kept = read.lookups_kept;
    hidden = read.hidden;
    observed = λ o. let r = read.observed o in record {
      observable = r.turns.observable;
      unchanged = r.turns.unchanged;
      next = λ d s passed h.
          let n = next_pair_is d s passed h.left pair (told r d s passed h) in
          let read_here = read_to h 0 here at (some_level h.holds.lawful) in
          stands_on at h pair n.rest (h.parts ∙ ap (λ ps. passed ++ ps) n.left_is) w passes refl n.own
          (λ new new_read. held_on old.pages here new held
          (new_read.lead ∙ leader_same d 0 passed pair (omega (arith, n.own)) ∙ sym read_here.lead)
          (new_read.count ∙ ((level_takes d passed pair 0).at n.own).1 ∙ ap (λ k. k + 1) (sym read_here.count))
          (page_is r d s passed h));
      all = λ d s passed h none. absurd (not_none pair none);
      lookups = λ d s passed h.
          let n = next_pair_is d s passed h.left pair (told r d s passed h) in
          let cost = ap (opens 0) (read_to h 0 here at (some_level h.holds.lawful)).count in
          omega (arith, r.turns.lookups, cost, pair_costs d passed pair n.own (h.holds.lawful.level_in_range pair.0));
    };
  }

-- ---- the next group

-- the group that a key leads, of which nothing is read
abbrev pub led_by : List ℕ → LevelPlace
led_by leader = record { lead = leads.Key leader; count = 0 }

module _ {old mid : PagesState} {stream : PairStream} {here : LevelPlace} (at : slice_get stream.places 0 ≡ Some here)
    {held : Option Page} where
  module _ (r : ReadsPair old mid here stream.page held (Ok None)) (d : Draw) (s passed : List Pair)
      (h : StandsBehind d s old.pages passed stream) where
    leads_next : LeadsBelow d s passed 1
    leads_next = leads_from_none d s passed h.left h.parts (told at r d s passed h)

    stands_there : {turned : PairStream} → IsWithPage stream held turned → StandsBehind d s mid.pages passed turned
    stands_there {turned} w = subst (λ m. StandsBehind d s m passed turned) (sym r.turns.unchanged)
        (stays at h w (λ within. page_is at r d s passed h))

  pub gives_none : {next : PagesState} {turned after : PairStream}
      → IsPairRead old mid here stream.page held (Ok None)
      → IsLeaderSearch mid next turned (Ok None) → IsWithPage stream held turned → IsWithPage stream held after
      → IsNextCall old next stream after (Ok None)
  gives_none first found w w_after = read_told None (read_behind
      (λ (r : ReadsPair old mid here stream.page held (Ok None)). r.turns.observable)
      (λ r f. record {
        observable = f.observable;
        unchanged = f.unchanged ∙ r.turns.unchanged;
        next = λ d s passed h. stays_behind at h w_after (λ within. page_is at r d s passed h);
        all = λ d s passed h none. f.found d s passed (stands_there r d s passed h w) (leads_next r d s passed h);
        lookups = λ d s passed h. in_vain d passed _ _ d.height d.height
            (omega (arith, f.lookups, r.turns.lookups, turn_within here, w.height, h.height, some_level h.holds.lawful))
            (omega arith);
      }) first found)

-- ---- its first pair

-- the group of level 0 has ended, and the key that leads the next one is found
record EndsGroup (old mid next : PagesState) (stream turned : PairStream) (here : LevelPlace) (held : Option Page)
    (level : ℕ) (leader : List ℕ) : Type 0 where
  ends : ReadsPair old mid here stream.page held (Ok None)
  finds : FindsLeader mid next turned (Ok (Some (level, leader)))

module _ {old mid next : PagesState} {stream turned : PairStream} {here : LevelPlace} {held : Option Page}
    {level : ℕ} {leader : List ℕ} where
  ended : IsPairRead old mid here stream.page held (Ok None)
      → IsLeaderSearch mid next turned (Ok (Some (level, leader)))
      → IsPagesRead {T = Option (ℕ × List ℕ)} old next (EndsGroup old mid next stream turned here held level leader)
      (Ok (Some (level, leader)))
  ended first found = read_behind (λ (r : ReadsPair old mid here stream.page held (Ok None)). r.turns.observable)
      (λ r f. record { ends = r; finds = f }) first found

  module _ (b : EndsGroup old mid next stream turned here held level leader) where
    unchanged_so_far : next.pages ≡ old.pages
    unchanged_so_far = b.finds.unchanged ∙ b.ends.turns.unchanged

    lookups_so_far : next.lookups ≤ old.lookups + 1 + level
    lookups_so_far = omega (arith, b.finds.lookups, b.ends.turns.lookups, turn_within here)

    module _ (at : slice_get stream.places 0 ≡ Some here) (w : IsWithPage stream held turned) (d : Draw)
        (s passed : List Pair) (h : StandsBehind d s old.pages passed stream) where
      next_key : IsNextKey d s passed level leader
      next_key = b.finds.found d s passed (stands_there at b.ends d s passed h w)
          (leads_next at b.ends d s passed h)

      leads_some : 0 < d.level next_key.pair.0
      leads_some = leads_next at b.ends d s passed h next_key.pair next_key.rest next_key.parts

      led_cells : List Cell
      led_cells = group_of_place d 0 (passed ++ next_key.pair ∷ []) next_key.rest

      leads_it : leads_group d 0 (cell_on 0 next_key.pair) ≡ true
      leads_it = lt-ltb 0 (d.level next_key.pair.0) leads_some

      lead_is : leader_behind d 0 (passed ++ next_key.pair ∷ []) ≡ Leader leader
      lead_is = pair_leads d passed next_key.pair leads_it ∙ ap Leader (sym next_key.key_is)

      led_held : HoldsGroup next.pages 0 (Leader leader) led_cells
      unfolding led_cells
      led_held = subst (λ l. HoldsGroup next.pages 0 l led_cells) lead_is
          (holds_pairs_place d s next 0 (passed ++ next_key.pair ∷ []) next_key.rest
          (next_key.parts ∙ sym (append_assoc passed (next_key.pair ∷ []) next_key.rest))
          (subst (λ m. HoldsPairs d s m) (sym unchanged_so_far) h.holds) (some_level h.holds.lawful))

      module _ {last : PagesState} {page : Option Page} {result : Option Pair}
          (r : ReadsPair next last (led_by leader) held page (Ok result)) where
        -- that is what is read of it
        pair_is : result ≡ Some next_key.pair
        unfolding led_cells
        pair_is = r.found (λ within. absurd (within refl)) led_cells led_held
            ∙ ap pair_in (group_begins d passed next_key.rest next_key.pair leads_it)

        held_there : (new : LevelPlace) → IsReadTo d (passed ++ next_key.pair ∷ []) 0 new → IsHeld old.pages new page
        held_there new read = λ within.
            let one : new.count ≡ 1 = read.count ∙ ((level_takes d passed next_key.pair 0).below leads_some).1 in
            r.turns.held (λ first. absurd (first refl))
            ∙ ap (λ m. page_at m (label_of 0 (Leader leader) 0)) unchanged_so_far
            ∙ ap₂ (λ l i. page_at old.pages (label_of 0 l i)) (sym lead_is ∙ sym read.lead)
            (let e : 0 ≡ new.count / 10 = omega (arith, one) in e)

  module _ (at : slice_get stream.places 0 ≡ Some here) (first : IsPairRead old mid here stream.page held (Ok None))
      (found : IsLeaderSearch mid next turned (Ok (Some (level, leader)))) (w : IsWithPage stream held turned)
      {last : PagesState} {page : Option Page} where
    -- it has one
    pub leader_missing : {after : PairStream} → IsPairRead next last (led_by leader) held page (Ok None)
        → IsNextCall old last stream after (Ok None)
    leader_missing {after = after} read = read_told None (read_behind
        (λ (b : EndsGroup old mid next stream turned here held level leader). b.finds.observable)
        (λ b r. record {
          observable = r.turns.observable;
          unchanged = r.turns.unchanged ∙ unchanged_so_far b;
          next = λ d s passed h. absurd (no_pair (next_key b at w d s passed h).pair (pair_is b at w d s passed h r));
          all = λ d s passed h none.
              absurd (no_pair (next_key b at w d s passed h).pair (pair_is b at w d s passed h r));
          lookups = λ d s passed h.
              absurd (no_pair (next_key b at w d s passed h).pair (pair_is b at w d s passed h r));
        }) (ended first found) read)
      where
        no_pair : (p : Pair) → None ≡ Some p → ⊥
        no_pair p e = cc

    pub gives_leader : {pair : Pair} {ended_at after : PairStream}
        → IsPairRead next last (led_by leader) held page (Ok (Some pair))
        → PassesPair level leader ended_at after → IsWithPage stream page ended_at
        → IsNextCall old last stream after (Ok (Some pair))
    gives_leader {pair = pair} {after = after} read passes w_after = read_told (Some pair) (read_behind
        (λ (b : EndsGroup old mid next stream turned here held level leader). b.finds.observable)
        (λ b r. record {
          observable = r.turns.observable;
          unchanged = r.turns.unchanged ∙ unchanged_so_far b;
          next = λ d s passed h.
              let n = next_key b at w d s passed h in
              let is : n.pair ≡ pair = same n.pair pair (sym (pair_is b at w d s passed h r)) in
              subst (λ p. StandsBehind d s old.pages (passed ++ p ∷ []) after) is
              (stands_on at h n.pair n.rest n.parts w_after passes n.key_is n.level_is
              (held_there b at w d s passed h r));
          all = λ d s passed h none. absurd (not_none pair none);
          lookups = λ d s passed h.
              let n = next_key b at w d s passed h in
              let is : n.pair ≡ pair = same n.pair pair (sym (pair_is b at w d s passed h r)) in
              let cost = leader_costs d passed n.pair (leads_some b at w d s passed h)
              (h.holds.lawful.level_in_range n.pair.0) in
              let cost_is = ap (λ p. stream_cost d (passed ++ p ∷ [])) is in
              omega (arith, lookups_so_far b, r.turns.lookups, turn_within (led_by leader), cost, cost_is, n.level_is);
        }) (ended first found) read)
      where
        same : (a b : Pair) → Some a ≡ Some b → a ≡ b
        same a b e = cc
