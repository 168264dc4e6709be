-- What a check answers.
use Rattle.std.proofs.Common.{◌≡◌, ℕ, ◌+◌, ◌-◌, ◌*◌, ◌%◌, ◌<◌, ◌≤◌, List, [], Option, Some, None, length, take, get_or}
use Rattle.std.proofs.Common.{slice_get, ap, sym, subst, ◌∙◌, arith, take_all}
use Rattle.std.specs.Prelude.{Result, Ok, Err, IfOk, IfSome}
use Rattle.std.proofs.Math.Nat.{mod-eq_of_lt, mod-add-mod, add-mod_left}
use Rattle.std.specs.Option.{option_map}
use Rattle.std.proofs.lemmas.List.{length-map, ext_get_or}
use Rattle.std.proofs.lemmas.Option.{slice_get-map, slice_get-get_or, get_or_from_slice_get, slice_get_within}
use Rattle.store_model.specs.Labels.{Label}
use Rattle.store_model.specs.Draws.{Draw, IsLawful}
use Rattle.store_model.specs.Pages.{Page, IsPage}
use Rattle.store_model.specs.Placement.{Table, probe, pages_in, HoldsPage, IsInOrder}
use Rattle.store_model.specs.Images.{slot_bytes, slots_of}
use Rattle.store_model.proofs.ListsLemmasOrder.{held_all}
use Rattle.store_model.proofs.PlacementLemmas.{probe_reaches}
use Rattle.store_model.proofs.PlacementLemmasOrder.{held_contained}
use Rattle.store_base.specs.declared.store_fault.Fault.{Fault}
use Rattle.store_base.specs.SlotsState.{SlotsState, IsObservable, IsCounted}
use Rattle.store_base.proofs.SlotsCalls.{AreSlotCalls-then, AreSlotCalls-value, IsObservable-later}
use Rattle.table_walk.specs.declared.round.Round.{Round}
use Rattle.table_walk.specs.declared.way.Standing.{Standing}
use Rattle.table_walk.specs.declared.content.Content.TheVariants.{Other}
use Rattle.table_walk.specs.Contents.{MayStand, TellsContent}
use Rattle.table_walk.specs.OrderCalls.{IsBelow, IsOrderedBelow, Checks, ChecksOrder}
use Rattle.table_walk.specs.Rounds.{slot_at, IsTable, IsBar, HoldsSmaller, AreReaches, JumpsLeft, LeadsBack, FindsBar}
use Rattle.table_walk.specs.Rounds.{Passes, ChecksRound}
use Rattle.table_walk.proofs.Reading.{AreRead, read_then, read_fault, seen_held}
use Rattle.table_walk.proofs.Turning.{way_back, way_far, turned, length-turned, length-pages_in-turned, all_in_slots}
use Rattle.table_walk.proofs.Turning.{table_of_slots}
use Rattle.table_walk.proofs.Checking.{IsSoFar, IsRead, Checking, Visits, visited, visited_seen, Stands}

-- ---- no ordered table

-- the slots of an ordered table are those of a table
ordered_is_table : (d : Draw) (height : ℕ) (round : Round) (slots : List (List ℕ)) (table : Table)
    → round.count ≡ d.slots → IsOrderedBelow d height slots table → IsTable round.count slots table
ordered_is_table d height round slots table same is = record {
  length_is = is.ordered.slots ∙ sym same;
  pages = is.ordered.pages;
  slots_are = is.slots_are;
}

-- no table in order has these slots
pub checks_none : (d : Draw) (height : ℕ) (round : Round) (old new : SlotsState) (before after : ℕ) → AreRead old new
    → after ≤ before + 3 * old.count
    → (IsObservable old → ((table : Table) → IsTable round.count old.slots table
    → IsBar table (slot_at round (round.count - 1))) → (table : Table)
    → IsOrderedBelow d height old.slots table → ⊥)
    → ChecksRound d height round old new before after (Ok None)
checks_none d height round old new before after read most none = record {
  calls = AreSlotCalls-value old new tt None read.calls;
  reads = read.same;
  within = tt;
  most = most;
  checked = none;
}

-- a slot holds what no slot of a table does
pub checks_other : (d : Draw) (height : ℕ) (round : Round) (old mid new : SlotsState) (before steps after : ℕ)
    (reach : List ℕ) (place run used at : ℕ) (bytes : List ℕ)
    → Visits d height round old mid new before steps reach place run used at bytes
    → TellsContent bytes height Other → after ≡ steps + 1 → ChecksRound d height round old new before after (Ok None)
checks_other d height round old mid new before steps after reach place run used at bytes v tells ticked =
    let counted = v.checking.left.counted in
    let count = v.count in
    let slots = v.slots in
    let within = v.within in
    checks_none d height round old new before after
    (visited d height round old mid new before steps reach place run used at bytes v)
    (omega (arith, counted, ticked, count, slots, within))
    (λ observable bars table is.
    let is_table = ordered_is_table d height round old.slots table slots is in
    let seen = visited_seen d height round old mid new before steps reach place run used at bytes v
    table observable is_table in
    tells seen.what (may_stand table is seen.what seen.there) seen.bytes_are)
  where
    may_stand : (table : Table) → IsOrderedBelow d height old.slots table → (what : Option Page)
        → slice_get table (slot_at round place) ≡ Some what → MayStand height what
    may_stand table is None there = tt
    may_stand table is (Some page) there =
        let contained = held_contained table (slot_at round place) page there in (
          held_all IsPage (pages_in table) page is.ordered.pages contained,
          held_all (IsBelow height)
              (pages_in table) page is.below contained,
        )

-- in a table in order the slots of a page's way hold smaller labels
in_way : (d : Draw) (round : Round) (table : Table) (page : Page) (slot way k : ℕ) → round.count ≡ d.slots
    → IsInOrder d table → HoldsPage table slot page → probe round.count (d.start page.label) way ≡ slot
    → way < round.count → k < way
    → HoldsSmaller table (probe round.count (d.start page.label) k) page.label
in_way d round table page slot way k same ordered held way_is below before =
    let at_way : HoldsPage table (probe d.slots (d.start page.label) way) page =
    subst (λ (n : ℕ). HoldsPage table n page)
    (sym way_is ∙ ap (λ (n : ℕ). probe n (d.start page.label) way) same) held in
    subst (λ (n : ℕ). HoldsSmaller table (probe n (d.start page.label) k) page.label) (sym same)
    (ordered page way (omega (arith, below, same)) at_way k before)

-- the page that was read stands in the table, so far behind its start
record StandsIn (d : Draw) (height : ℕ) (round : Round) (table : Table) (place way : ℕ) (page : Page) : Type 0 where
  held : HoldsPage table (slot_at round place) page
  way_is : probe round.count (d.start page.label) way ≡ slot_at round place

stands_in_table : (d : Draw) (height : ℕ) (round : Round) (old mid new : SlotsState) (before steps : ℕ) (reach : List ℕ)
    (place run used at start : ℕ) (bytes : List ℕ) (page : Standing)
    → Visits d height round old mid new before steps reach place run used at bytes
    → (stands : Stands d height round bytes page.label start page.way at) → (table : Table) → IsObservable old
    → IsTable round.count old.slots table
    → StandsIn d height round table place page.way stands.held.page
stands_in_table d height round old mid new before steps reach place run used at start bytes page v
    stands table observable is =
    let seen = visited_seen d height round old mid new before steps reach place run used at bytes v table observable is
    in
    record {
      held = seen_held round.count old.slots table (slot_at round place) bytes stands.held.page is seen
          stands.held.stands.0 stands.held.bytes;
      way_is = ap (λ (n : ℕ). probe round.count n page.way)
          (ap d.start (sym stands.held.label_is) ∙ sym stands.start_is) ∙ stands.way_is ∙ v.at_is;
    }

-- a way leads from before the run
pub checks_far : (d : Draw) (height : ℕ) (round : Round) (old mid new : SlotsState) (before steps after : ℕ)
    (reach : List ℕ) (place run used at start : ℕ) (bytes : List ℕ) (page : Standing)
    → Visits d height round old mid new before steps reach place run used at bytes
    → Stands d height round bytes page.label start page.way at → place - run < page.way → after ≡ steps + 2
    → ChecksRound d height round old new before after (Ok None)
checks_far d height round old mid new before steps after reach place run used at start bytes page v stands far ticked =
    let counted = v.checking.left.counted in
    let count = v.count in
    let slots = v.slots in
    let within = v.within in
    let ran = v.checking.run_within in
    checks_none d height round old new before after
    (visited d height round old mid new before steps reach place run used at bytes v)
    (omega (arith, counted, ticked, count, slots, within))
    (λ observable bars table is.
    let is_table = ordered_is_table d height round old.slots table slots is in
    let s = v.checking.so_far table observable is_table (bars table is_table) in
    let in_table = stands_in_table d height round old mid new before steps reach place run used at start bytes page v
    stands table observable is_table in
    let k : ℕ = page.way - (place - run + 1) in
    let smaller = in_way d round table stands.held.page (slot_at round place) page.way k slots
    is.ordered.in_order in_table.held in_table.way_is stands.way_below (omega (arith, far)) in
    s.bar (slot_at round place) stands.held.page in_table.held
    (subst (λ (n : ℕ). HoldsSmaller table n stands.held.page.label)
    (way_far round.count round.first place run (d.start stands.held.page.label) page.way k within ran
    (omega (arith, far)) in_table.way_is) smaller))

-- no more steps than three for each slot, up to the end of a way
way_steps : (d : Draw) (height : ℕ) (round : Round) (old mid : SlotsState) (before steps ticked after : ℕ)
    (reach : List ℕ) (place run used : ℕ) (page : Standing)
    → Checking d height round old mid before steps reach place run used → page.place ≡ place → page.way ≤ place - run
    → ticked ≡ steps + 2 → place < round.count → round.count ≡ old.count
    → ((run most : ℕ) → JumpsLeft reach run page.place ticked most → run + page.way ≤ page.place → after ≤ most)
    → after ≤ before + 3 * old.count
way_steps d height round old mid before steps ticked after reach place run used page c here fits
    counts within count most =
    let ran = c.run_within in
    let counted = c.left.counted in
    let left : JumpsLeft reach run page.place ticked (before + 3 * place + 2) = record {
      jumps = c.left.jumps;
      back = subst (λ (n : ℕ). LeadsBack reach run n c.left.jumps) (sym here) c.left.back;
      counted = omega (arith, counted, counts);
    } in
    omega (arith, most run (before + 3 * place + 2) left (omega (arith, fits, here, ran)), within, count)

-- a slot of the way holds no smaller label
pub checks_greater : (d : Draw) (height : ℕ) (round : Round) (old mid new last : SlotsState)
    (before steps ticked after : ℕ) (reach : List ℕ) (place run used at start : ℕ) (bytes : List ℕ) (page : Standing)
    → Visits d height round old mid new before steps reach place run used at bytes
    → Stands d height round bytes page.label start page.way at → page.place ≡ place → page.way ≤ place - run
    → ticked ≡ steps + 2 → Passes round new last page reach ticked after (Ok None)
    → ChecksRound d height round old last before after (Ok None)
checks_greater d height round old mid new last before steps ticked after reach place run used at start bytes page v
    stands here fits counts passes =
    let slots = v.slots in
    checks_none d height round old last before after
    (read_then old new last read (record {
      calls = AreSlotCalls-value new last None tt passes.calls;
      same = passes.reads;
    }))
    (way_steps d height round old mid before steps ticked after reach place run used page v.checking here fits counts
    v.within (slots ∙ sym v.count) passes.most)
    (λ observable bars table is.
    let is_table = ordered_is_table d height round old.slots table slots is in
    let s = v.checking.so_far table observable is_table (bars table is_table) in
    let in_table = stands_in_table d height round old mid new before steps reach place run used at start bytes page v
    stands table observable is_table in
    let later = IsObservable-later old new (Ok tt) read.calls observable in
    let is_later : IsTable round.count new.slots table =
    subst (λ (ss : List (List ℕ)). IsTable round.count ss table) (sym (read.same observable)) is_table in
    let one = passes.way table later is_later (subst (AreReaches table round reach) (sym here) s.reaches) in
    let behind = one.behind in
    let ahead = one.before in
    let k : ℕ = page.way - (place - one.at) in
    let smaller = in_way d round table stands.held.page (slot_at round place) page.way k slots
    is.ordered.in_order in_table.held in_table.way_is stands.way_below (omega (arith, behind, ahead, here, fits)) in
    let slot = way_back round.count round.first place (d.start stands.held.page.label) page.way one.at k
    v.within (omega (arith, ahead, here)) (omega (arith, behind, ahead, here, fits)) in_table.way_is in
    one.greater (subst (λ (l : Label). HoldsSmaller table (slot_at round one.at) l) (sym stands.held.label_is)
    (subst (λ (n : ℕ). HoldsSmaller table n stands.held.page.label) slot smaller)))
  where
    read : AreRead old new
    read = visited d height round old mid new before steps reach place run used at bytes v

-- ---- a fault

pub checks_fails : (d : Draw) (height : ℕ) (round : Round) (old mid new last : SlotsState)
    (before steps ticked after : ℕ) (reach : List ℕ) (place run used at : ℕ) (bytes : List ℕ)
    (page : Standing) (fault : Fault)
    → Visits d height round old mid new before steps reach place run used at bytes → page.place ≡ place
    → page.way ≤ place - run
    → ticked ≡ steps + 2 → Passes round new last page reach ticked after (Err fault)
    → ChecksRound d height round old last before after (Err fault)
checks_fails d height round old mid new last before steps ticked after reach place run used at bytes page fault v
    here fits counts passes =
    let ends = read_fault {U = Option ℕ} old new last fault
    (visited d height round old mid new before steps reach place run used at bytes v) passes.calls passes.reads in
    let slots = v.slots in
    record {
      calls = ends.calls;
      reads = ends.same;
      within = tt;
      most = way_steps d height round old mid before steps ticked after reach place run used page v.checking here fits
          counts v.within (slots ∙ sym v.count) passes.most;
      checked = λ observable bars. tt;
    }

-- ---- an ordered table

-- the slots are those of a table whose slots have these bytes
slots_are_of : (slots : List (List ℕ)) (n : ℕ) (table : Table) → length slots ≡ n → length table ≡ n
    → ((slot : ℕ) (what : Option Page) → slice_get table slot ≡ Some what
    → slice_get slots slot ≡ Some (slot_bytes what)) → slots ≡ slots_of table
slots_are_of slots n table long table_long each =
    ext_get_or [] slots (slots_of table) (long ∙ sym table_long ∙ sym (length-map table slot_bytes)) same
  where
    same : (i : ℕ) → i < length slots → get_or slots i [] ≡ get_or (slots_of table) i []
    same i within =
        let there = slice_get-get_or table i None (omega (arith, within, long, table_long)) in
        get_or_from_slice_get slots i (slot_bytes (get_or table i None)) [] (each i (get_or table i None) there)
        ∙ sym (get_or_from_slice_get (slots_of table) i (slot_bytes (get_or table i None)) []
        (slice_get-map slot_bytes table i ∙ ap (option_map slot_bytes) there))

pub checks_all : (d : Draw) (height : ℕ) (round : Round) (old now : SlotsState) (before after : ℕ) (reach : List ℕ)
    (place run used : ℕ) → IsLawful d → round.count ≡ d.slots → old.count ≡ d.slots
    → round.first < round.count → place ≡ round.count
    → (IsObservable old → IsCounted old) → Checking d height round old now before after reach place run used
    → ChecksRound d height round old now before after (Ok (Some used))
checks_all d height round old now before after reach place run used law slots count first all counts c = record {
  calls = AreSlotCalls-value old now tt (Some used) c.read.calls;
  reads = c.read.same;
  within = let within = c.used_within in omega (arith, within, all, slots, count);
  most = let counted = c.left.counted in omega (arith, counted, all, slots, count);
  checked = λ observable bars. the_table observable bars;
}
  where
    -- what a slot holds, by its place
    decoded : IsObservable old → (slot : ℕ) → slot < round.count
        → (what : Option Page) × IsRead height old.slots slot what
    decoded observable slot below =
        let at = probe_reaches round.count round.first slot first below in
        let read = c.decoded observable at.0 (omega (arith, at.1, all)) in
        (read.0, subst (λ (n : ℕ). IsRead height old.slots n read.0) at.2 read.1)

    ordered : (table : Table) → IsTable round.count old.slots table
        → IsSoFar d height round table reach place run used → IsInOrder d table
    ordered table is s page i below held k before =
        let same : probe d.slots (d.start page.label) i ≡ probe round.count (d.start page.label) i =
        ap (λ (n : ℕ). probe n (d.start page.label) i) (sym slots) in
        let slot_below : probe d.slots (d.start page.label) i < round.count = let long = is.length_is
        in omega (arith, slice_get_within table (probe d.slots (d.start page.label) i) (Some page) held, long) in
        let at = probe_reaches round.count round.first (probe d.slots (d.start page.label) i) first slot_below in
        let there : HoldsPage table (slot_at round at.0) page =
        subst (λ (n : ℕ). HoldsPage table n page) (sym at.2) held in
        let smaller = s.in_order at.0 page (omega (arith, at.1, all)) there i (omega (arith, below, slots))
        (sym same ∙ sym at.2) k before in
        subst (λ (n : ℕ). HoldsSmaller table (probe n (d.start page.label) k) page.label) slots smaller

    the_table : IsObservable old → ((table : Table) → IsTable round.count old.slots table
        → IsBar table (slot_at round (round.count - 1))) → Checks d height old.slots (Some used)
    the_table observable bars =
        let made = table_of_slots (IsRead height old.slots) round.count (decoded observable) in
        let table = made.0 in
        let counted = counts observable in
        let pages = all_in_slots IsPage table (λ slot page held. (made.2 slot (Some page) held).stands.0) in
        let is : IsTable round.count old.slots table = record {
          length_is = made.1;
          pages = pages;
          slots_are = slots_are_of old.slots round.count table
              (counted ∙ count ∙ sym slots) made.1 (λ slot what there. (made.2 slot what there).bytes);
        } in
        let s = c.so_far table observable is (bars table is) in
        let whole : take place (turned round.first table) ≡ turned round.first table =
        take_all place (turned round.first table)
        (omega (arith, length-turned round.first table (omega (arith, first, made.1)), made.1, all)) in (
          table,
          record {
            ordered = record { slots = made.1 ∙ slots; pages = pages; in_order = ordered table is s };
            slots_are = is.slots_are;
            below = all_in_slots (IsBelow height) table (λ slot page held. (made.2 slot (Some page) held).stands.1);
          },
          s.used_is ∙ ap (λ (t : Table). length (pages_in t)) whole ∙ length-pages_in-turned round.first table,
        )

-- ---- the whole check

-- the slot before the first of a round
last_slot : (n first bar : ℕ) → bar < n → first ≡ (bar + 1) % n → bar ≡ probe n first (n - 1)
last_slot n first bar below next =
    let round : bar + 1 + (n - 1) ≡ n + bar = omega arith in
    sym (ap (λ (k : ℕ). (k + (n - 1)) % n) next ∙ mod-add-mod (bar + 1) n (n - 1) ∙ ap (λ (k : ℕ). k % n) round
    ∙ add-mod_left n bar ∙ mod-eq_of_lt below)

-- what is found of slots that were read is found of the slots
checks_earlier : (d : Draw) (height : ℕ) (mid old : List (List ℕ)) (result : Result (Option ℕ) Fault) → mid ≡ old
    → IfOk result (Checks d height mid) → IfOk result (Checks d height old)
checks_earlier d height mid old result same checks =
    subst (λ (ss : List (List ℕ)). IfOk result (Checks d height ss)) same checks

pub checks_order : (d : Draw) (height : ℕ) (round : Round) (old mid new : SlotsState) (before steps after bar : ℕ)
    (result : Result (Option ℕ) Fault) → old.count ≡ d.slots → round.count ≡ d.slots → bar < round.count
    → round.first ≡ (bar + 1) % round.count
    → FindsBar old mid before steps (Ok bar) → ChecksRound d height round mid new steps after result
    → ChecksOrder d height old new before after result
checks_order d height round old mid new before steps after bar result count slots below next found checks = record {
  calls = AreSlotCalls-then old mid new bar result found.calls checks.calls;
  reads = λ observable. checks.reads (IsObservable-later old mid (Ok bar) found.calls observable)
      ∙ found.reads observable;
  within = subst (λ (n : ℕ). IfOk result (λ used. IfSome used (λ pages. pages ≤ n))) found.calls.count checks.within;
  most = let first = found.most in let then = checks.most in let same = found.calls.count
      in omega (arith, first, then, same);
  ordered = λ observable.
      let same = found.reads observable in
      checks_earlier d height mid.slots old.slots result same
      (checks.checked (IsObservable-later old mid (Ok bar) found.calls observable)
      (λ table is. subst (IsBar table) (last_slot round.count round.first bar below next)
      (found.bar table observable
      (subst (λ (n : ℕ). IsTable n old.slots table) (slots ∙ sym count)
      (subst (λ (ss : List (List ℕ)). IsTable round.count ss table) same is)))));
}
