-- A search on its way, and what it answers.
use Rattle.std.proofs.Common.{◌≡◌, ◌↔◌, ℕ, ◌+◌, ◌%◌, ◌<◌, ◌≤◌, ◌⊎◌, inl, inr, List, Bool, true, false, Option, Some}
use Rattle.std.proofs.Common.{None, length, get_or, slice_get, refl, ap, sym, subst, ◌∙◌, arith}
use Rattle.std.specs.Prelude.{Ok, Err}
use Rattle.std.specs.List.{prefix_len}
use Rattle.std.specs.declared.cmp.Ordering.{Ordering}
use Rattle.std.specs.declared.cmp.Ordering.TheVariants.{Less, Equal, Greater}
use Rattle.std.specs.Ordering.{nat_cmp, is_lt, is_eq}
use Rattle.std.specs.Cmp.Lexicographic.{slice_cmp, nat_list_cmp_total}
use Rattle.std.specs.FinMap as maps
use Rattle.std.proofs.lemmas.Bool.{cases_lt, false≢true}
use Rattle.std.proofs.lemmas.Cmp.{tied_itself}
use Rattle.std.proofs.lemmas.List.{length-map, get_or-map}
use Rattle.std.proofs.lemmas.List.Sums.{prefix_len_passes, prefix_len_stops}
use Rattle.std.proofs.lemmas.Option.{same_Some, slice_get_within, slice_get-map}
use Rattle.std.specs.Option.{option_map}
use Rattle.store_model.specs.Lists.{numbers_below}
use Rattle.store_model.specs.Labels.{Label, IsLabel, label_bytes, label_cmp}
use Rattle.store_model.specs.Draws.{Draw, IsLawful}
use Rattle.store_model.specs.Pages.{Page, IsPage}
use Rattle.store_model.specs.Placement.{Table, probe, probes, place, HoldsPage, IsOrderedTable}
use Rattle.store_model.specs.Images.{slot_bytes, slots_of}
use Rattle.store_model.specs.PageMaps.{PageMap, page_at, pages_of_map, HoldsPages, IsTableOf}
use Rattle.store_model.proofs.PlacementLemmas.{length-numbers_from, get_or-numbers_from, probe_reaches, label_cmp_total}
use Rattle.store_model.proofs.PlacementLemmasTables.{tied_label_bytes}
use Rattle.store_model.proofs.TreesLemmasBytes.{labels_same}
use Rattle.store_model.proofs.PageMapsLemmas.{IsOrderedTable-page_map, pages_of_placed_map, found_stands}
use Rattle.store_model.proofs.PageMapsLemmas.{standing_found}
use Rattle.store_base.specs.declared.store_fault.Fault.{Fault}
use Rattle.store_base.specs.SlotsState.{SlotsState, IsObservable, AreSlotCalls}
use Rattle.store_base.proofs.SlotsCalls.{AreSlotCalls-none, AreSlotCalls-then, AreSlotCalls-value, AreSlotCalls-fault}
use Rattle.store_base.proofs.SlotsCalls.{IsObservable-later}
use Rattle.ordered_table.specs.Tables.{is_passed, looks, TellsOrder, Orders, IsSlotWith, Finds, Looks}
use Rattle.ordered_table.proofs.Reading.{probe_first, probe_next, probe_within, stands_in, seen_page}

-- ---- how many slots a search looks at

-- a front of passing elements is no longer than the longest
prefix_reaches : {X : Type 0} (f : X → Bool) (xs : List X) (i : ℕ) (d : X) → i ≤ length xs
    → ((k : ℕ) → k < i → f (get_or xs k d) ≡ true) → i ≤ prefix_len f xs
prefix_reaches {X} f xs i d within passed = by_case (cases_lt (prefix_len f xs) i)
  where
    by_case : (prefix_len f xs < i) ⊎ (i ≤ prefix_len f xs) → i ≤ prefix_len f xs
    by_case (inl less) =
        absurd (false≢true (sym (prefix_len_stops f xs d (omega arith)) ∙ passed (prefix_len f xs) less))
    by_case (inr reached) = reached

-- and it ends at one that doesn't pass
prefix_ends : {X : Type 0} (f : X → Bool) (xs : List X) (i : ℕ) (d : X)
    → f (get_or xs i d) ≡ false → prefix_len f xs ≤ i
prefix_ends {X} f xs i d stops = by_case (cases_lt i (prefix_len f xs))
  where
    by_case : (i < prefix_len f xs) ⊎ (prefix_len f xs ≤ i) → prefix_len f xs ≤ i
    by_case (inl less) = absurd (false≢true (sym stops ∙ prefix_len_passes f xs i d less))
    by_case (inr ended) = ended

-- slot number k of the probe sequence
get_or-probes : (d : Draw) (l : Label) (k : ℕ) → k < d.slots → get_or (probes d l) k 0 ≡ probe d.slots (d.start l) k
unfolding probes
get_or-probes d l k below = get_or-map (probe d.slots (d.start l)) (numbers_below d.slots) k 0 0
    (omega (arith, length-numbers_from 0 d.slots))
    ∙ ap (probe d.slots (d.start l)) (get_or-numbers_from 0 d.slots k 0 below ∙ omega arith)

length-probes : (d : Draw) (l : Label) → length (probes d l) ≡ d.slots
unfolding probes
length-probes d l = length-map (numbers_below d.slots) (probe d.slots (d.start l)) ∙ length-numbers_from 0 d.slots

-- the first slots of the label's probe sequence hold pages of smaller label
abbrev pub PassedFirst : Draw → Table → Label → ℕ → Type 0
PassedFirst d table l look = (k : ℕ) → k < look → is_passed l (slice_get table (probe d.slots (d.start l) k)) ≡ true

passed_by_index : (d : Draw) (table : Table) (l : Label) (look : ℕ) → look ≤ d.slots → PassedFirst d table l look
    → (k : ℕ) → k < look → is_passed l (slice_get table (get_or (probes d l) k 0)) ≡ true
passed_by_index d table l look within passed k below =
    ap (λ (slot : ℕ). is_passed l (slice_get table slot)) (get_or-probes d l k (omega arith)) ∙ passed k below

-- a slot behind those that were passed is looked at
looks_more : (d : Draw) (table : Table) (l : Label) (look : ℕ) → look < d.slots → PassedFirst d table l look
    → look + 1 ≤ looks d table l
unfolding looks
looks_more d table l look within passed =
    omega (
      arith,
      prefix_reaches (λ slot. is_passed l (slice_get table slot)) (probes d l) look 0
          (omega (arith, length-probes d l)) (passed_by_index d table l look (omega arith) passed),
    )

-- and is the last one where it isn't passed
looks_end : (d : Draw) (table : Table) (l : Label) (look : ℕ) → look < d.slots → PassedFirst d table l look
    → is_passed l (slice_get table (probe d.slots (d.start l) look)) ≡ false → looks d table l ≡ look + 1
unfolding looks
looks_end d table l look within passed ends =
    omega (
      arith,
      prefix_reaches (λ slot. is_passed l (slice_get table slot)) (probes d l) look 0 (omega (arith, length-probes d l))
          (passed_by_index d table l look (omega arith) passed),
      prefix_ends (λ slot. is_passed l (slice_get table slot)) (probes d l) look 0
          (ap (λ (slot : ℕ). is_passed l (slice_get table slot)) (get_or-probes d l look within) ∙ ends),
    )

-- all slots are looked at where each is passed
looks_all : (d : Draw) (table : Table) (l : Label) → PassedFirst d table l d.slots → looks d table l ≡ d.slots
unfolding looks
looks_all d table l passed =
    omega (
      arith,
      prefix_reaches (λ slot. is_passed l (slice_get table slot)) (probes d l) d.slots 0
          (omega (arith, length-probes d l)) (passed_by_index d table l d.slots (omega arith) passed),
    )

-- ---- what is not there

-- how the label of what a slot holds stands to a label
abbrev pub order_by : Label → Option Page → Option Ordering
order_by l None = None
order_by l (Some page) = Some (label_cmp page.label l)

-- a search ends at what a slot holds, and doesn't find the label there
pub record EndsAt (l : Label) (what : Option Page) : Type 0 where
  pub not_smaller : order_by l what ≡ Some Less → ⊥
  pub not_same : order_by l what ≡ Some Equal → ⊥

-- what is passed is smaller, and nothing else is
passed_is_less : (l : Label) (what : Option Page) → order_by l what ≡ Some Less → is_passed l (Some what) ≡ true
passed_is_less l None less = cc
passed_is_less l (Some page) less = ap is_lt (same_Some (label_cmp page.label l) Less less)

not_passed : (l : Label) (what : Option Page) → (order_by l what ≡ Some Less → ⊥) → is_passed l (Some what) ≡ false
not_passed l None ends = refl
not_passed l (Some page) ends = by_order (label_cmp page.label l) (λ same. ends (ap Some same))
  where
    by_order : (o : Ordering) → (o ≡ Less → ⊥) → is_lt o ≡ false
    by_order Less ends = absurd (ends refl)
    by_order Equal ends = refl
    by_order Greater ends = refl

-- a page is as great as itself
same_order : (page : Page) (l : Label) → page.label ≡ l → label_cmp page.label l ≡ Equal
same_order page l same = ap (label_cmp page.label) (sym same) ∙ tied_itself label_cmp_total page.label

-- a table that a search passes and ends in has no page of the label; a search that passes all slots ends behind them
not_in_slot : (d : Draw) (table : Table) (l : Label) (look j : ℕ) (page : Page) → IsOrderedTable d table
    → PassedFirst d table l look
    → ((what : Option Page) → look < d.slots → slice_get table (probe d.slots (d.start l) look)
    ≡ Some what → EndsAt l what)
    → j < d.slots → page.label ≡ l → HoldsPage table (probe d.slots (d.start l) j) page → ⊥
not_in_slot d table l look j page is passed ends within same held = by_place (cases_lt j look) (cases_lt look j)
  where
    is_same : order_by l (Some page) ≡ Some Equal
    is_same = ap Some (same_order page l same)

    behind : look < j → ⊥
    behind lt =
        let at : HoldsPage table (probe d.slots (d.start page.label) j) page =
        subst (λ (k : Label). HoldsPage table (probe d.slots (d.start k) j) page) (sym same) held in
        let r = is.in_order page j within at look lt in
        let there : HoldsPage table (probe d.slots (d.start l) look) r.0 =
        subst (λ (k : Label). HoldsPage table (probe d.slots (d.start k) look) r.0) same r.1 in
        (ends (Some r.0) (omega arith) there).not_smaller (ap Some (ap (label_cmp r.0.label) (sym same) ∙ r.2))

    by_place : (j < look) ⊎ (look ≤ j) → (look < j) ⊎ (j ≤ look) → ⊥
    by_place (inl lt) q =
        let is_less : is_lt (label_cmp page.label l) ≡ true = ap (is_passed l) (sym held) ∙ passed j lt in
        let is_not : is_lt (label_cmp page.label l) ≡ false = ap is_lt (same_order page l same) in
        false≢true (sym is_not ∙ is_less)
    by_place (inr le) (inl lt) = behind lt
    by_place (inr le) (inr ge) =
        let here : j ≡ look = omega arith in
        (ends (Some page) (omega arith)
        (subst (λ (k : ℕ). HoldsPage table (probe d.slots (d.start l) k) page) here held)).not_same is_same

-- so the map has nothing under it
pub absent : (d : Draw) (slots : List (List ℕ)) (m : PageMap) (table : Table) (l : Label) (look : ℕ) → IsLawful d
    → HoldsPages d slots m → IsTableOf d slots m table → IsLabel l → PassedFirst d table l look
    → ((what : Option Page) → look < d.slots → slice_get table (probe d.slots (d.start l) look) ≡ Some what
    → EndsAt l what) → page_at m l ≡ None
absent d slots m table l look law holds is label passed ends = by_page (page_at m l) refl
  where
    none_there : (page : Page) → page_at m l ≡ Some page → ⊥
    none_there page found =
        let under = holds.pages (label_bytes l) page found in
        let same : page.label ≡ l = labels_same page.label l under.valid.label label (sym under.under) in
        let stands = found_stands d slots m table page is (ap (page_at m) same ∙ found) in
        let r = probe_reaches d.slots (d.start l) stands.0 (law.start_in_range l)
        (omega (arith, slice_get_within table stands.0 (Some page) stands.1, is.ordered.slots)) in
        not_in_slot d table l look r.0 page is.ordered passed ends r.1 same
        (subst (λ (s : ℕ). HoldsPage table s page) (sym r.2) stands.1)

    by_page : (o : Option Page) → page_at m l ≡ o → page_at m l ≡ None
    by_page None e = e
    by_page (Some page) e = absurd (none_there page e)

-- the slots hold the pages of the map in the table of their placement
pub held_table : (d : Draw) (slots : List (List ℕ)) (m : PageMap) → IsLawful d → HoldsPages d slots m
    → IsTableOf d slots m (place d (pages_of_map m))
held_table d slots m law holds = record {
  ordered = IsOrderedTable-page_map d m law holds.pages holds.fits;
  slots_are = holds.slots_are;
  pages_are = pages_of_placed_map d m law holds.pages holds.fits;
}

-- ---- a search on its way

-- it is at slot number `look` of the probe sequence, and what it passed holds pages of smaller label
pub record Searching (d : Draw) (old now : SlotsState) (l : Label) (look at : ℕ) : Type 0 where
  pub calls : AreSlotCalls {T = Unit {0}} old now (Ok tt)
  pub place : at ≡ probe d.slots (d.start l) look
  pub reads : IsObservable old → now.slots ≡ old.slots
  pub passed : IsObservable old → (table : Table) → IsOrderedTable d table → old.slots ≡ slots_of table
      → PassedFirst d table l look

pub searching_starts : (d : Draw) (state : SlotsState) (l : Label) (at : ℕ) → IsLawful d → at ≡ d.start l
    → Searching d state state l 0 at
searching_starts d state l at law here = record {
  calls = AreSlotCalls-none state tt;
  place = here ∙ probe_first d.slots (d.start l) (law.start_in_range l);
  reads = λ o. refl;
  passed = λ o table is are k below. absurd (omega (arith, below));
}

pub searching_within : (d : Draw) (old now : SlotsState) (l : Label) (look at : ℕ) → IsLawful d → old.count ≡ d.slots
    → Searching d old now l look at → at < d.slots
searching_within d old now l look at law count s =
    subst (λ (n : ℕ). n < d.slots) (sym s.place) (probe_within d.slots (d.start l) look (law.start_in_range l))

-- what a comparison in the next slot tells
pub record LooksAt (d : Draw) (old now new : SlotsState) (l : Label) (look at : ℕ)
    (order : Option Ordering) : Type 0 where
  law : IsLawful d
  count : old.count ≡ d.slots
  within : look < d.slots
  searching : Searching d old now l look at
  orders : Orders now new at (label_bytes l) (Ok order)

pub looks_at : (d : Draw) (old now new : SlotsState) (l : Label) (look at : ℕ) (wanted : List ℕ)
    (order : Option Ordering) → IsLawful d → old.count ≡ d.slots → look < d.slots → Searching d old now l look at
    → Orders now new at wanted (Ok order) → wanted ≡ label_bytes l → LooksAt d old now new l look at order
looks_at d old now new l look at wanted order law count within searching orders same =
    record {
      law = law;
      count = count;
      within = within;
      searching = searching;
      orders = subst (λ (bytes : List ℕ). Orders now new at bytes (Ok order)) same orders;
    }

-- what is told of a slot is told of what the table holds there
told : (l : Label) (what : Option Page) (order : Option Ordering) → ((page : Page) → what ≡ Some page → IsPage page)
    → TellsOrder (slot_bytes what) (label_bytes l) order → order ≡ order_by l what
told l None order valid tells = tells.free refl
told l (Some page) order valid tells = tells.page page (valid page refl) refl

-- the table holds there what was told
record TellsOf (d : Draw) (table : Table) (l : Label) (look at : ℕ) (order : Option Ordering) : Type 0 where
  what : Option Page
  there : slice_get table at ≡ Some what
  in_probes : slice_get table (probe d.slots (d.start l) look) ≡ Some what
  order_is : order ≡ order_by l what

tells : (d : Draw) (old now new : SlotsState) (l : Label) (look at : ℕ) (order : Option Ordering)
    → LooksAt d old now new l look at order → IsObservable old
    → (table : Table) → IsOrderedTable d table → old.slots ≡ slots_of table → TellsOf d table l look at order
tells d old now new l look at order s observable table is are =
    let within : at < length table =
    omega (arith, searching_within d old now l look at s.law s.count s.searching, is.slots) in
    let here = stands_in table now.slots at (s.searching.reads observable ∙ are) within in
    record {
      what = here.0;
      there = here.1;
      in_probes = ap (slice_get table) (sym s.searching.place) ∙ here.1;
      order_is = told l here.0 order (λ page same. seen_page d table at here.0 page is here.1 same)
          (s.orders.told (slot_bytes here.0) (IsObservable-later old now (Ok tt) s.searching.calls observable) here.2);
    }

-- the calls so far
searched : (d : Draw) (old now new : SlotsState) (l : Label) (look at : ℕ) (order : Option Ordering)
    → LooksAt d old now new l look at order → AreSlotCalls {T = Unit {0}} old new (Ok tt)
searched d old now new l look at order s =
    AreSlotCalls-value old new order tt (AreSlotCalls-then old now new tt (Ok order) s.searching.calls s.orders.calls)

still_read : (d : Draw) (old now new : SlotsState) (l : Label) (look at : ℕ) (order : Option Ordering)
    → LooksAt d old now new l look at order → IsObservable old → new.slots ≡ old.slots
still_read d old now new l look at order s observable =
    s.orders.reads (IsObservable-later old now (Ok tt) s.searching.calls observable) ∙ s.searching.reads observable

-- it goes on behind a page of smaller label
pub searching_goes_on : (d : Draw) (old now new : SlotsState) (l : Label) (look at : ℕ) (order : Option Ordering)
    (next : ℕ) → LooksAt d old now new l look at order
    → order ≡ Some Less → next ≡ (at + 1) % d.slots → Searching d old new l (look + 1) next
searching_goes_on d old now new l look at order next s less is_next = record {
  calls = searched d old now new l look at order s;
  place = is_next ∙ probe_next d.slots (d.start l) look at s.searching.place;
  reads = still_read d old now new l look at order s;
  passed = λ observable table is are k below. one_more observable table is are k (cases_lt k look) below;
}
  where
    one_more : IsObservable old → (table : Table) → IsOrderedTable d table → old.slots ≡ slots_of table → (k : ℕ)
        → (k < look) ⊎ (look ≤ k) → k < look + 1 → is_passed l (slice_get table (probe d.slots (d.start l) k)) ≡ true
    one_more observable table is are k (inl before) below = s.searching.passed observable table is are k before
    one_more observable table is are k (inr behind) below =
        let here : look ≡ k = omega arith in
        let t = tells d old now new l look at order s observable table is are in
        subst (λ (n : ℕ). is_passed l (slice_get table (probe d.slots (d.start l) n)) ≡ true) here
        (ap (is_passed l) t.in_probes ∙ passed_is_less l t.what (sym t.order_is ∙ less))

-- ---- what it answers

-- a fault of the slots
pub finds_fails : (d : Draw) (old now new : SlotsState) (l : Label) (look at before steps after : ℕ) (wanted : List ℕ)
    (fault : Fault) → IsLawful d → old.count ≡ d.slots → look < d.slots → Searching d old now l look at
    → Orders now new at wanted (Err fault) → steps ≡ before + look → after ≡ steps + 1
    → Finds d old new l before after (Err fault)
finds_fails d old now new l look at before steps after wanted fault law count within s orders counted ticked = record {
  calls = AreSlotCalls-then old now new tt (Err fault) s.calls (AreSlotCalls-fault now new fault orders.calls);
  reads = λ observable. orders.reads (IsObservable-later old now (Ok tt) s.calls observable) ∙ s.reads observable;
  within = tt;
  most = omega (arith, counted, ticked, count, within);
  found = λ m observable holds.
      let is = held_table d old.slots m law holds in
      record {
        absent = tt;
        slot = tt;
        steps = tt;
        limit = omega (
          arith,
          counted,
          ticked,
          looks_more d (place d (pages_of_map m)) l look within
              (s.passed observable (place d (pages_of_map m)) is.ordered is.slots_are),
        );
      };
}

-- a page whose label is the same
same_label_there : (l : Label) (what : Option Page) → order_by l what ≡ Some Equal
    → (page : Page) × (what ≡ Some page) × (label_cmp page.label l ≡ Equal)
same_label_there l None same = cc
same_label_there l (Some page) same = (page, refl, same_Some (label_cmp page.label l) Equal same)

-- the slot that holds the label
pub finds_found : (d : Draw) (old now new : SlotsState) (l : Label) (look at before steps after : ℕ)
    (order : Option Ordering) → LooksAt d old now new l look at order
    → order ≡ Some Equal → steps ≡ before + look → after ≡ steps + 1 → Finds d old new l before after (Ok (Some at))
finds_found d old now new l look at before steps after order s same counted ticked = record {
  calls = AreSlotCalls-value old new tt (Some at) (searched d old now new l look at order s);
  reads = still_read d old now new l look at order s;
  within = omega (arith, searching_within d old now l look at s.law s.count s.searching, s.count);
  most = omega (arith, counted, ticked, s.count, s.within);
  found = λ m observable holds.
      let table = place d (pages_of_map m) in
      let is = held_table d old.slots m s.law holds in
      let t = tells d old now new l look at order s observable table is.ordered is.slots_are in
      let p = same_label_there l t.what (sym t.order_is ∙ same) in
      let held : HoldsPage table at p.0 = t.there ∙ ap Some p.1 in
      let in_map : page_at m l ≡ Some p.0 = ap (maps.get m) (sym (tied_label_bytes p.0.label l p.2))
      ∙ standing_found d old.slots m table at p.0 s.law is held in
      let passed = s.searching.passed observable table is.ordered is.slots_are in
      let ends = ap (is_passed l) t.in_probes ∙ not_passed l t.what (λ less. not_both order same (t.order_is ∙ less)) in
      let exact : after ≡ before + looks d table l =
      omega (arith, counted, ticked, looks_end d table l look s.within passed ends) in
      record {
        absent = (λ no. absurd (false≢true (sym no)), λ none. absurd (some_is_no_none p.0 (sym in_map ∙ none)));
        slot = record {
          page = p.0;
          in_map = in_map;
          in_slot = ap (λ (ss : List (List ℕ)). slice_get ss at) is.slots_are ∙ slice_get-map slot_bytes table at
              ∙ ap (option_map slot_bytes) held;
        };
        steps = exact;
        limit = omega (arith, exact);
      };
}
  where
    not_both : (o : Option Ordering) → o ≡ Some Equal → o ≡ Some Less → ⊥
    not_both o e f = cc

    some_is_no_none : (page : Page) → Some page ≡ None → ⊥
    some_is_no_none page e = cc

-- no slot, where it ends at a free slot or at a page of greater label
pub finds_ended : (d : Draw) (old now new : SlotsState) (l : Label) (look at before steps after : ℕ)
    (order : Option Ordering) → LooksAt d old now new l look at order → IsLabel l
    → (order ≡ Some Less → ⊥) → (order ≡ Some Equal → ⊥) → steps ≡ before + look → after ≡ steps + 1
    → Finds d old new l before after (Ok None)
finds_ended d old now new l look at before steps after order s label not_less not_equal counted ticked = record {
  calls = AreSlotCalls-value old new tt None (searched d old now new l look at order s);
  reads = still_read d old now new l look at order s;
  within = tt;
  most = omega (arith, counted, ticked, s.count, s.within);
  found = λ m observable holds.
      let table = place d (pages_of_map m) in
      let is = held_table d old.slots m s.law holds in
      let t = tells d old now new l look at order s observable table is.ordered is.slots_are in
      let passed = s.searching.passed observable table is.ordered is.slots_are in
      let ends = ap (is_passed l) t.in_probes ∙ not_passed l t.what (λ less. not_less (t.order_is ∙ less)) in
      let exact : after ≡ before + looks d table l =
      omega (arith, counted, ticked, looks_end d table l look s.within passed ends) in
      record {
        absent = (
          λ yes. absent d old.slots m table l look s.law holds is label passed
              (λ what within there. ends_there t.what what
              (same_Some t.what what (sym t.in_probes ∙ there)) t.order_is),
          λ none. refl,
        );
        slot = tt;
        steps = exact;
        limit = omega (arith, exact);
      };
}
  where
    ends_there : (a b : Option Page) → a ≡ b → order ≡ order_by l a → EndsAt l b
    ends_there a b same is = record {
      not_smaller = λ less. not_less (is ∙ ap (order_by l) same ∙ less);
      not_same = λ equal. not_equal (is ∙ ap (order_by l) same ∙ equal);
    }

-- no slot, where all hold pages of smaller label
pub finds_none : (d : Draw) (old now : SlotsState) (l : Label) (look at before after : ℕ) → IsLawful d
    → old.count ≡ d.slots → d.slots ≤ look → look ≤ d.slots → Searching d old now l look at → IsLabel l
    → after ≡ before + look → Finds d old now l before after (Ok None)
finds_none d old now l look at before after law count all most s label counted = record {
  calls = AreSlotCalls-value old now tt None s.calls;
  reads = s.reads;
  within = tt;
  most = omega (arith, counted, count, most);
  found = λ m observable holds.
      let table = place d (pages_of_map m) in
      let is = held_table d old.slots m law holds in
      let full : look ≡ d.slots = omega (arith, all, most) in
      let passed = s.passed observable table is.ordered is.slots_are in
      let looked = looks_all d table l (subst (PassedFirst d table l) full passed) in
      let exact : after ≡ before + looks d table l = omega (arith, counted, full, looked) in
      record {
        absent = (
          λ yes. absent d old.slots m table l look law holds is label passed
              (λ what within there. absurd (omega (arith, within, all))),
          λ none. refl,
        );
        slot = tt;
        steps = exact;
        limit = omega (arith, exact);
      };
}

-- ---- a look into one slot

-- what is told of the slot
pub record LooksInto (d : Draw) (old new : SlotsState) (at : ℕ) (l : Label) (order : Option Ordering) : Type 0 where
  law : IsLawful d
  within : at < d.slots
  orders : Orders old new at (label_bytes l) (Ok order)

pub looks_into : (d : Draw) (old new : SlotsState) (at : ℕ) (l : Label) (wanted : List ℕ) (order : Option Ordering)
    → IsLawful d → old.count ≡ d.slots → at < old.count → Orders old new at wanted (Ok order) → wanted ≡ label_bytes l
    → LooksInto d old new at l order
looks_into d old new at l wanted order law count below orders same =
    record {
      law = law;
      within = omega (arith, count, below);
      orders = subst (λ (bytes : List ℕ). Orders old new at bytes (Ok order)) same orders;
    }

-- the page of the label stands in a slot of which just this is told
stands_there : (d : Draw) (old new : SlotsState) (at : ℕ) (l : Label) (order : Option Ordering)
    → LooksInto d old new at l order → (m : PageMap) → IsObservable old → HoldsPages d old.slots m
    → (order ≡ Some Equal) ↔ IsSlotWith old.slots m l at
stands_there d old new at l order s m observable holds = (there, back)
  where
    table : Table
    table = place d (pages_of_map m)

    is : IsTableOf d old.slots m table
    is = held_table d old.slots m s.law holds

    what : (what : Option Page) × (slice_get table at ≡ Some what) × (slice_get old.slots at ≡ Some (slot_bytes what))
    what = let within = s.within in stands_in table old.slots at is.slots_are (omega (arith, within, is.ordered.slots))

    there : order ≡ Some Equal → IsSlotWith old.slots m l at
    there same =
        let order_is = told l what.0 order (λ page e. seen_page d table at what.0 page is.ordered what.1 e)
        (s.orders.told (slot_bytes what.0) observable what.2) in
        let p = same_label_there l what.0 (sym order_is ∙ same) in
        record {
          page = p.0;
          in_map = ap (maps.get m) (sym (tied_label_bytes p.0.label l p.2))
              ∙ standing_found d old.slots m table at p.0 s.law is (what.1 ∙ ap Some p.1);
          in_slot = what.2 ∙ ap (λ (o : Option Page). Some (slot_bytes o)) p.1;
        }

    back : IsSlotWith old.slots m l at → order ≡ Some Equal
    back slot =
        let under = holds.pages (label_bytes l) slot.page slot.in_map in
        let tied : label_cmp slot.page.label l ≡ Equal =
        ap (λ (b : List ℕ). slice_cmp nat_cmp b (label_bytes l)) (sym under.under)
        ∙ tied_itself nat_list_cmp_total (label_bytes l) in
        (s.orders.told (slot_bytes (Some slot.page)) observable slot.in_slot).page slot.page under.valid refl
        ∙ ap Some tied

-- the answer
pub looks_told : (d : Draw) (old new : SlotsState) (at : ℕ) (l : Label) (order : Option Ordering) (is_there : Bool)
    → LooksInto d old new at l order → (is_there ≡ true → order ≡ Some Equal) → (order ≡ Some Equal → is_there ≡ true)
    → Looks d old new at l (Ok is_there)
looks_told d old new at l order is_there s says equal = record {
  calls = AreSlotCalls-value old new order is_there s.orders.calls;
  reads = s.orders.reads;
  there = λ m observable holds. let both = stands_there d old new at l order s m observable holds
      in (λ e. both.0 (says e), λ slot. equal (both.1 slot));
}

-- a fault of the slots
pub looks_fail : (d : Draw) (old new : SlotsState) (at : ℕ) (l : Label) (wanted : List ℕ) (fault : Fault)
    → Orders old new at wanted (Err fault) → Looks d old new at l (Err fault)
looks_fail d old new at l wanted fault orders = record {
  calls = AreSlotCalls-fault old new fault orders.calls;
  reads = orders.reads;
  there = λ m observable holds. tt;
}

pub is_equal : (o : Ordering) → is_eq o ≡ true → o ≡ Equal
is_equal Less e = cc
is_equal Equal e = refl
is_equal Greater e = cc
