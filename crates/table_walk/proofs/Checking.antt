-- A check on its way.
use Rattle.std.proofs.Common.{◌≡◌, ◌≢◌, ℕ, zero, suc, ◌+◌, ◌-◌, ◌*◌, ◌<◌, ◌≤◌, ◌⊎◌, inl, inr, List, Option, Some, None}
use Rattle.std.proofs.Common.{length, take, slice_get, slice_set, slice_index, replicate, refl, ap, sym, subst, ◌∙◌}
use Rattle.std.proofs.Common.{arith, get_or-set_same, get_or-set_other}
use Rattle.std.specs.Prelude.{Ok}
use Rattle.std.proofs.lemmas.Bool.{cases_lt}
use Rattle.std.proofs.lemmas.List.{get_or-replicate, get_or_past, length-replicate}
use Rattle.store_model.specs.Labels.{Label}
use Rattle.store_model.specs.Draws.{Draw, IsLawful}
use Rattle.store_model.specs.Pages.{Page}
use Rattle.store_model.specs.Placement.{Table, probe, pages_in, HoldsPage}
use Rattle.store_model.specs.Images.{slot_bytes}
use Rattle.store_model.proofs.PlacementLemmasOrder.{probe_once, one_page}
use Rattle.store_base.specs.SlotsState.{SlotsState, IsObservable, IsGet}
use Rattle.store_base.proofs.SlotsCalls.{AreSlotCalls-value, IsObservable-later}
use Rattle.ordered_table.proofs.Reading.{Seen}
use Rattle.table_walk.specs.declared.round.Round.{Round}
use Rattle.table_walk.specs.declared.way.Standing.{Standing}
use Rattle.table_walk.specs.Contents.{MayStand, IsHeld}
use Rattle.table_walk.specs.OrderCalls.{IsBelow}
use Rattle.table_walk.specs.Rounds.{slot_at, IsTable, IsBar, HoldsSmaller, AreSmaller, AreReaches, LeadsBack}
use Rattle.table_walk.specs.Rounds.{JumpsLeft, Passes}
use Rattle.table_walk.proofs.Reading.{AreRead, read_none, read_then, read_more, read_bytes, read_table, seen_free}
use Rattle.table_walk.proofs.Reading.{seen_held}
use Rattle.table_walk.proofs.Turning.{way_back, slot_before, turned, slice_get-turned, pages_in-free, pages_in-held}

-- the page in a slot came to it over smaller labels alone
abbrev pub IsPassed : Draw → ℕ → Table → Page → ℕ → Type 0
IsPassed d count table page slot = (i : ℕ) → i < count → probe count (d.start page.label) i ≡ slot → (k : ℕ) → k < i
    → HoldsSmaller table (probe count (d.start page.label) k) page.label

-- the slots at the first places of a round are in order
pub record IsSoFar (d : Draw) (height : ℕ) (round : Round) (table : Table) (reach : List ℕ)
    (place run used : ℕ) : Type 0 where
  pub below : (at : ℕ) (page : Page) → at < place → HoldsPage table (slot_at round at) page → IsBelow height page
  pub in_order : (at : ℕ) (page : Page) → at < place → HoldsPage table (slot_at round at) page
      → IsPassed d round.count table page (slot_at round at)
  pub reaches : AreReaches table round reach place
  pub bar : IsBar table (slot_at round (round.count - 1 + run))
  pub used_is : used ≡ length (pages_in (take place (turned round.first table)))

-- what may stand in a slot, and its bytes
pub record IsRead (height : ℕ) (slots : List (List ℕ)) (slot : ℕ) (what : Option Page) : Type 0 where
  pub stands : MayStand height what
  pub bytes : slice_get slots slot ≡ Some (slot_bytes what)

-- the check has come to a place of the round
pub record Checking (d : Draw) (height : ℕ) (round : Round) (old now : SlotsState) (before steps : ℕ) (reach : List ℕ)
    (place run used : ℕ) : Type 0 where
  pub read : AreRead old now
  pub run_within : run ≤ place
  pub used_within : used ≤ place
  pub back : (at : ℕ) → slice_index reach at ≤ at
  pub left : JumpsLeft reach run place steps (before + 3 * place)
  pub decoded : IsObservable old → (at : ℕ) → at < place
      → (what : Option Page) × IsRead height old.slots (slot_at round at) what
  pub so_far : (table : Table) → IsObservable old → IsTable round.count old.slots table
      → IsBar table (slot_at round (round.count - 1)) → IsSoFar d height round table reach place run used

-- no place was come to
zero_reach : (n at : ℕ) → slice_index (replicate n 0) at ≤ at
zero_reach n at = by_place (cases_lt at n)
  where
    by_place : (at < n) ⊎ (n ≤ at) → slice_index (replicate n 0) at ≤ at
    by_place (inl within) = omega (arith, get_or-replicate {A = ℕ} n at 0 0 within)
    by_place (inr past) =
        omega (arith, get_or_past {X = ℕ} (replicate n 0) at 0 (omega (arith, length-replicate {A = ℕ} n 0, past)))

pub checking_starts : (d : Draw) (height : ℕ) (round : Round) (old : SlotsState) (before n : ℕ)
    → Checking d height round old old before before (replicate n 0) 0 0 0
unfolding pages_in
checking_starts d height round old before n = record {
  read = read_none old;
  run_within = omega arith;
  used_within = omega arith;
  back = zero_reach n;
  left = record { jumps = 0; back = refl; counted = omega arith };
  decoded = λ observable at below. absurd (omega (arith, below));
  so_far = λ table observable is bar. record {
    below = λ at page below. absurd (omega (arith, below));
    in_order = λ at page below. absurd (omega (arith, below));
    reaches = λ at page below. absurd (omega (arith, below));
    bar = let e : round.count - 1 ≡ round.count - 1 + 0 = omega arith
        in subst (λ (n : ℕ). IsBar table (slot_at round n)) e bar;
    used_is = refl;
  };
}

-- ---- a slot that is read

-- the slot at the place that the check has come to is read
pub record Visits (d : Draw) (height : ℕ) (round : Round) (old mid new : SlotsState) (before steps : ℕ) (reach : List ℕ)
    (place run used at : ℕ) (bytes : List ℕ) : Type 0 where
  pub law : IsLawful d
  pub slots : round.count ≡ d.slots
  pub count : old.count ≡ d.slots
  pub checking : Checking d height round old mid before steps reach place run used
  pub first : round.first < round.count
  pub within : place < round.count
  pub at_is : at ≡ slot_at round place
  pub below : at < round.count
  pub get : IsGet {T = Unit {0}} mid new at bytes (Ok tt)

pub visits_at : {T : Type 0} (d : Draw) (height : ℕ) (round : Round) (old mid new : SlotsState) (before steps : ℕ)
    (reach : List ℕ) (place run used at : ℕ) (bytes : List ℕ) (value : T) → IsLawful d → round.count ≡ d.slots
    → old.count ≡ d.slots → Checking d height round old mid before steps reach place run used → place < round.count
    → at ≡ slot_at round place → at < round.count → IsGet {T = T} mid new at bytes (Ok value)
    → Visits d height round old mid new before steps reach place run used at bytes
visits_at d height round old mid new before steps reach place run used at bytes value law slots count checking
    within at_is below get =
    record {
      law = law;
      slots = slots;
      count = count;
      checking = checking;
      first = round.first_in_range;
      within = within;
      at_is = at_is;
      below = below;
      get = record {
        calls = AreSlotCalls-value mid new value tt get.calls;
        observed = λ observable. record {
          got = (get.observed observable).got;
          slots = (get.observed observable).slots;
        };
      };
    }

-- so it was read with those before it
pub visited : (d : Draw) (height : ℕ) (round : Round) (old mid new : SlotsState) (before steps : ℕ) (reach : List ℕ)
    (place run used at : ℕ) (bytes : List ℕ)
    → Visits d height round old mid new before steps reach place run used at bytes → AreRead old new
visited d height round old mid new before steps reach place run used at bytes v =
    read_more old mid new at bytes v.checking.read v.get

-- and its bytes are told
pub visited_bytes : (d : Draw) (height : ℕ) (round : Round) (old mid new : SlotsState) (before steps : ℕ)
    (reach : List ℕ) (place run used at : ℕ) (bytes : List ℕ)
    → Visits d height round old mid new before steps reach place run used at bytes
    → IsObservable old → slice_get old.slots (slot_at round place) ≡ Some bytes
visited_bytes d height round old mid new before steps reach place run used at bytes v observable =
    subst (λ (n : ℕ). slice_get old.slots n ≡ Some bytes)
    v.at_is (read_bytes old mid new at bytes v.checking.read v.get observable)

-- with what a table holds there
pub visited_seen : (d : Draw) (height : ℕ) (round : Round) (old mid new : SlotsState) (before steps : ℕ)
    (reach : List ℕ) (place run used at : ℕ) (bytes : List ℕ)
    → Visits d height round old mid new before steps reach place run used at bytes
    → (table : Table) → IsObservable old → IsTable round.count old.slots table → Seen table (slot_at round place) bytes
visited_seen d height round old mid new before steps reach place run used at bytes v table observable is =
    let at_is = v.at_is in
    let below = v.below in
    read_table round.count old.slots table (slot_at round place) bytes is (omega (arith, at_is, below))
    (visited_bytes d height round old mid new before steps reach place run used at bytes v observable)

-- what is told of the slots before a place, and of the one there, is told of one more
pub one_more : (P : ℕ → Type 0) (place : ℕ) → ((at : ℕ) → at < place → P at) → P place → (at : ℕ)
    → at < place + 1 → P at
one_more P place before here at below = by_place (cases_lt at place)
  where
    by_place : (at < place) ⊎ (place ≤ at) → P at
    by_place (inl earlier) = before at earlier
    by_place (inr later) = let same : place ≡ at = omega (arith, below, later) in subst P same here

-- ---- a free slot

-- the slots are in order with a free one more
free_so_far : (d : Draw) (height : ℕ) (round : Round) (table : Table) (reach : List ℕ) (place run used : ℕ)
    → length table ≡ round.count → round.first < round.count → place < round.count
    → IsSoFar d height round table reach place run used
    → slice_get table (slot_at round place) ≡ Some None
    → IsSoFar d height round table reach (place + 1) (place + 1) used
free_so_far d height round table reach place run used long first within s free = record {
  below = λ at page below held. one_more (λ at. (page : Page) → HoldsPage table (slot_at round at) page
      → IsBelow height page) place (λ at earlier page held. s.below at page earlier held)
      (λ page held. absurd (holds_none page (slot_at round place) free held)) at below page held;
  in_order = λ at page below held. one_more (λ at. (page : Page) → HoldsPage table (slot_at round at) page
      → IsPassed d round.count table page (slot_at round at)) place
      (λ at earlier page held. s.in_order at page earlier held)
      (λ page held. absurd (holds_none page (slot_at round place) free held)) at below page held;
  reaches = λ at page below held. one_more (λ at. (page : Page) → HoldsPage table (slot_at round at) page
      → AreSmaller table round page.label (slice_index reach at) at) place
      (λ at earlier page held. s.reaches at page earlier held)
      (λ page held. absurd (holds_none page (slot_at round place) free held)) at below page held;
  bar = λ at page held smaller. holds_none smaller.0 (slot_at round place) free
      (subst (λ (n : ℕ). HoldsPage table n smaller.0)
      (slot_before round.count round.first place (omega (arith, within))) smaller.1);
  used_is =
      let there : slice_get (turned round.first table) place ≡ Some None =
      slice_get-turned round.first place round.count table (sym long) first within ∙ free in
      let next : suc place ≡ place + 1 = omega arith in
      s.used_is ∙ sym (pages_in-free (turned round.first table) place there)
      ∙ ap (λ (n : ℕ). length (pages_in (take n (turned round.first table)))) next;
}
  where
    holds_none : (page : Page) (slot : ℕ) → slice_get table slot ≡ Some None → HoldsPage table slot page → ⊥
    holds_none page slot free held = cc

pub checking_free : (d : Draw) (height : ℕ) (round : Round) (old mid new : SlotsState) (before steps after : ℕ)
    (reach : List ℕ) (place run used at : ℕ) (bytes : List ℕ)
    → Visits d height round old mid new before steps reach place run used at bytes
    → bytes ≡ slot_bytes None → after ≡ steps + 1
    → Checking d height round old new before after reach (place + 1) (place + 1) used
checking_free d height round old mid new before steps after reach place run used at bytes v zeros ticked = record {
  read = visited d height round old mid new before steps reach place run used at bytes v;
  run_within = omega arith;
  used_within = let within = v.checking.used_within in omega (arith, within);
  back = v.checking.back;
  left = let counted = v.checking.left.counted in record {
    jumps = 0;
    back = refl;
    counted = omega (arith, ticked, counted);
  };
  decoded = λ observable. one_more (λ at. (what : Option Page) × IsRead height old.slots (slot_at round at) what) place
      (v.checking.decoded observable) (
        None,
        record {
          stands = tt;
          bytes = visited_bytes d height round old mid new before steps reach place run used at bytes v observable
              ∙ ap Some zeros;
        },
      );
  so_far = λ table observable is bar.
      free_so_far d height round table reach place run used
      is.length_is v.first v.within (v.checking.so_far table observable is bar)
      (seen_free round.count old.slots table (slot_at round place) bytes is
      (visited_seen d height round old mid new before steps reach place run used at bytes v table observable is)
      zeros);
}

-- ---- a page

-- a page whose way leads over smaller labels alone is passed
passed_in_order : (d : Draw) (round : Round) (table : Table) (page : Page) (place way from : ℕ)
    → d.start page.label < round.count → place < round.count → way < round.count
    → probe round.count (d.start page.label) way ≡ slot_at round place → from + way ≤ place
    → AreSmaller table round page.label from place → IsPassed d round.count table page (slot_at round place)
passed_in_order d round table page place way from start within way_below way_is fits smaller i i_below there k before =
    let one : i ≡ way = probe_once round.count (d.start page.label) i way start i_below way_below (there ∙ sym way_is)
    in
    let q = place - (way - k) in
    subst (λ (n : ℕ). HoldsSmaller table n page.label)
    (sym (way_back round.count round.first place (d.start page.label) way q k within
    (omega (arith, before, one, fits)) (omega (arith, before, one, fits)) way_is))
    (smaller q (omega (arith, before, one, fits)) (omega (arith, before, one, fits)))

-- reaches of the places before one are not changed at it
reaches_set : (table : Table) (round : Round) (reach : List ℕ) (place from : ℕ) → place < length reach
    → AreReaches table round reach place
    → ((page : Page) → HoldsPage table (slot_at round place) page → AreSmaller table round page.label from place)
    → AreReaches table round (slice_set reach place from) (place + 1)
reaches_set table round reach place from room before here at page below held =
    one_more (λ at. (page : Page) → HoldsPage table (slot_at round at) page
    → AreSmaller table round page.label (slice_index (slice_set reach place from) at) at) place
    (λ at earlier page held. let other : at ≢ place = omega (arith, earlier)
    in let same = sym (get_or-set_other reach place at from 0 other)
    in subst (λ (n : ℕ). AreSmaller table round page.label n at) same (before at page earlier held))
    (λ page held. subst (λ (n : ℕ). AreSmaller table round page.label n place)
    (sym (get_or-set_same reach place from 0 room)) (here page held))
    at below page held

-- nor are the jumps that lead back from there
leads_set : (reach : List ℕ) (run place from value jumps : ℕ) → ((at : ℕ) → slice_index reach at ≤ at) → from ≤ place
    → LeadsBack reach run from jumps → LeadsBack (slice_set reach place value) run from jumps
leads_set reach run place from value zero back below leads = leads
leads_set reach run place from value (suc jumps) back below leads =
    let other : from - 1 ≢ place = omega (arith, leads.0, below) in
    let same : slice_index (slice_set reach place value) (from - 1) ≡ slice_index reach (from - 1) =
    get_or-set_other reach place (from - 1) value 0 other in
    let low = back (from - 1) in (
      leads.0,
      subst (λ (n : ℕ). LeadsBack (slice_set reach place value) run n jumps) (sym same)
          (leads_set reach run place (slice_index reach (from - 1)) value jumps back
          (omega (arith, low, below)) leads.1),
    )

-- a jump from the place behind leads to where its page's reach begins
left_set : (reach : List ℕ) (run place from steps most : ℕ) → place < length reach
    → ((at : ℕ) → slice_index reach at ≤ at) → run ≤ place → from ≤ place → JumpsLeft reach run from steps most
    → JumpsLeft (slice_set reach place from) run (place + 1) steps (most + 1)
left_set reach run place from steps most room back ran below left =
    let counted = left.counted in
    let here : place + 1 - 1 ≡ place = omega arith in
    let there : slice_index (slice_set reach place from) (place + 1 - 1) ≡ from =
    ap (slice_index (slice_set reach place from)) here ∙ get_or-set_same reach place from 0 room in
    record {
      jumps = suc left.jumps;
      back = (
        omega (arith, ran),
        subst (λ (n : ℕ). LeadsBack (slice_set reach place from) run n left.jumps) (sym there)
            (leads_set reach run place from from left.jumps back below left.back),
      );
      counted = omega (arith, counted);
    }

-- the slots are in order with a page one more
held_so_far : (d : Draw) (height : ℕ) (round : Round) (table : Table) (reach : List ℕ) (place run used from : ℕ)
    (page : Page) → length table ≡ round.count → round.first < round.count → place < round.count → place < length reach
    → IsSoFar d height round table reach place run used → HoldsPage table (slot_at round place) page
    → IsBelow height page → IsPassed d round.count table page (slot_at round place)
    → AreSmaller table round page.label from place
    → IsSoFar d height round table (slice_set reach place from) (place + 1) run (used + 1)
held_so_far d height round table reach place run used from page long first within room s held below passed smaller =
    record {
      below = λ at other earlier there. one_more (λ at. (page : Page) → HoldsPage table (slot_at round at) page
          → IsBelow height page) place (λ at earlier page held. s.below at page earlier held)
          (λ other there. subst (IsBelow height) (one_page table (slot_at round place) page other held there) below)
          at earlier other there;
      in_order = λ at other earlier there. one_more (λ at. (page : Page) → HoldsPage table (slot_at round at) page
          → IsPassed d round.count table page (slot_at round at)) place
          (λ at earlier page held. s.in_order at page earlier held)
          (λ other there. subst (λ (p : Page). IsPassed d round.count table p (slot_at round place))
          (one_page table (slot_at round place) page other held there) passed) at earlier other there;
      reaches = reaches_set table round reach place from room
          s.reaches (λ other there. subst (λ (p : Page). AreSmaller table round p.label from place)
          (one_page table (slot_at round place) page other held there) smaller);
      bar = s.bar;
      used_is =
          let there : HoldsPage (turned round.first table) place page =
          slice_get-turned round.first place round.count table (sym long) first within ∙ held in
          let next : suc place ≡ place + 1 = omega arith in
          let more : suc used ≡ used + 1 = omega arith in
          sym more ∙ ap suc s.used_is ∙ sym (pages_in-held (turned round.first table) place page there)
          ∙ ap (λ (n : ℕ). length (pages_in (take n (turned round.first table)))) next;
    }

-- a page was read, and how far it stands behind its start was found
pub record Stands (d : Draw) (height : ℕ) (round : Round) (bytes : List ℕ) (label : Label)
    (start way at : ℕ) : Type 0 where
  pub held : IsHeld bytes height label
  pub start_is : start ≡ d.start label
  pub way_is : probe round.count start way ≡ at
  pub way_below : way < round.count

-- it starts in the table
pub start_within : (d : Draw) (round : Round) (label : Label) → IsLawful d → round.count ≡ d.slots
    → d.start label < round.count
start_within d round label law slots = let start = law.start_in_range label in omega (arith, start, slots)

pub checking_page : (d : Draw) (height : ℕ) (round : Round) (old mid new last : SlotsState)
    (before steps ticked after : ℕ) (reach : List ℕ) (place run used at start from : ℕ)
    (bytes : List ℕ) (page : Standing)
    → Visits d height round old mid new before steps reach place run used at bytes
    → Stands d height round bytes page.label start page.way at → page.place ≡ place
    → page.way ≤ place - run → place < length reach
    → ticked ≡ steps + 2 → Passes round new last page reach ticked after (Ok (Some from))
    → Checking d height round old last before after (slice_set reach place from) (place + 1) run (used + 1)
checking_page d height round old mid new last before steps ticked after reach place run used at start from bytes page v
    stands here fits room counts passes = record {
      read = read_then old new last read (record {
        calls = AreSlotCalls-value new last (Some from) tt passes.calls;
        same = passes.reads;
      });
      run_within = let ran = v.checking.run_within in omega (arith, ran);
      used_within = let within = v.checking.used_within in omega (arith, within);
      back = set_back;
      left =
          let ran = v.checking.run_within in
          let more : before + 3 * place + 2 + 1 ≡ before + 3 * (place + 1) = omega arith in
          let counted = v.checking.left.counted in
          let left : JumpsLeft reach run page.place ticked (before + 3 * place + 2) = record {
            jumps = v.checking.left.jumps;
            back = subst (λ (n : ℕ). LeadsBack reach run n v.checking.left.jumps) (sym here) v.checking.left.back;
            counted = omega (arith, counted, counts);
          } in
          subst (JumpsLeft (slice_set reach place from) run (place + 1) after) more
          (left_set reach run place from after (before + 3 * place + 2) room v.checking.back ran from_below
          (passes.left run (before + 3 * place + 2) left (omega (arith, fits, here, ran))));
      decoded = λ observable. one_more (λ at. (what : Option Page)
          × IsRead height old.slots (slot_at round at) what) place
          (v.checking.decoded observable) (
            Some stands.held.page,
            record {
              stands = stands.held.stands;
              bytes = visited_bytes d height round old mid new before steps reach place run used at bytes v observable
                  ∙ ap Some stands.held.bytes;
            },
          );
      so_far = λ table observable is bar.
          let s = v.checking.so_far table observable is bar in
          let seen = visited_seen d height round old mid new before steps reach place run used at bytes
          v table observable is in
          let holds = seen_held round.count old.slots table (slot_at round place) bytes stands.held.page is seen
          stands.held.stands.0 stands.held.bytes in
          let smaller = the_way table observable is s.reaches in
          held_so_far d height round table reach place run used from
          stands.held.page is.length_is v.first v.within room s
          holds stands.held.stands.1
          (passed_in_order d round table stands.held.page place page.way from
          (start_within d round stands.held.page.label v.law v.slots) v.within stands.way_below way_is
          fits_before smaller) smaller;
    }
  where
    read : AreRead old new
    read = visited d height round old mid new before steps reach place run used at bytes v

    fits_before : from + page.way ≤ place
    fits_before = let within = passes.within in omega (arith, within, here)

    from_below : from ≤ place
    from_below = omega (arith, fits_before)

    way_is : probe round.count (d.start stands.held.page.label) page.way ≡ slot_at round place
    way_is = ap (λ (n : ℕ). probe round.count n page.way) (ap d.start (sym stands.held.label_is) ∙ sym stands.start_is)
        ∙ stands.way_is ∙ v.at_is

    set_back : (q : ℕ) → slice_index (slice_set reach place from) q ≤ q
    set_back q = by_place (cases_lt q place) (cases_lt place q)
      where
        by_place : (q < place) ⊎ (place ≤ q) → (place < q) ⊎ (q ≤ place)
            → slice_index (slice_set reach place from) q ≤ q
        by_place (inl earlier) r = let other : q ≢ place = omega (arith, earlier) in let low = v.checking.back q
            in omega (arith, get_or-set_other reach place q from 0 other, low)
        by_place (inr l) (inl later) = let other : q ≢ place = omega (arith, later) in let low = v.checking.back q
            in omega (arith, get_or-set_other reach place q from 0 other, low)
        by_place (inr l) (inr r) =
            let same : place ≡ q = omega (arith, l, r) in
            subst (λ (n : ℕ). slice_index (slice_set reach place from) n ≤ n) same
            (omega (arith, get_or-set_same reach place from 0 room, from_below))

    the_way : (table : Table) → IsObservable old → IsTable round.count old.slots table
        → AreReaches table round reach place → AreSmaller table round stands.held.page.label from place
    the_way table observable is reaches =
        let later = IsObservable-later old new (Ok tt) read.calls observable in
        let is_later : IsTable round.count new.slots table =
        subst (λ (ss : List (List ℕ)). IsTable round.count ss table) (sym (read.same observable)) is in
        let smaller = passes.way table later is_later (subst (AreReaches table round reach) (sym here) reaches) in
        subst (λ (n : ℕ). AreSmaller table round stands.held.page.label from n) here
        (subst (λ (l : Label). AreSmaller table round l from page.place) stands.held.label_is smaller)
