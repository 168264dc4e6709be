-- The calls of an insertion, one after the other.
use Rattle.std.proofs.Common.{◌≡◌, ℕ, ◌+◌, ◌%◌, ◌<◌, List, true, false, Option, Some, None, length, slice_set, refl, ap}
use Rattle.std.proofs.Common.{sym, subst, ◌∙◌, arith}
use Rattle.std.specs.Prelude.{Result, Ok, Err, OnOk}
use Rattle.std.specs.declared.cmp.Ordering.{Ordering}
use Rattle.std.specs.declared.cmp.Ordering.TheVariants.{Less, Equal, Greater}
use Rattle.std.specs.Ordering.{is_lt}
use Rattle.std.proofs.lemmas.Bool.{false≢true}
use Rattle.std.proofs.lemmas.Option.{same_Some}
use Rattle.store_model.specs.Labels.{Label, label_cmp}
use Rattle.store_model.specs.Draws.{Draw, IsLawful}
use Rattle.store_model.specs.Pages.{Page, IsPage}
use Rattle.store_model.specs.Placement.{probe}
use Rattle.store_model.specs.Images.{page_bytes, slot_bytes}
use Rattle.store_model.specs.PageMaps.{PageMap, with_page, HoldsPages}
use Rattle.store_model.proofs.PageMapsLemmas.{IsPageMap-with_page}
use Rattle.store_base.specs.declared.store_fault.Fault.{Fault}
use Rattle.store_base.specs.SlotsState.{SlotsState, IsObservable, AreSlotCalls, IsGet, IsSet}
use Rattle.store_base.proofs.SlotsCalls.{AreSlotCalls-none, AreSlotCalls-then, IsObservable-later}
use Rattle.ordered_table.specs.Tables.{HasRoomFor, Inserts}
use Rattle.ordered_table.specs.InsertionWays.{Carries, Inserting}
use Rattle.ordered_table.proofs.Reading.{probe_first, probe_next, probe_within, Seen, seen, seen_page}
use Rattle.ordered_table.proofs.Inserting.{carries_first, carries_on, carries_displaced, settles}

pub inserting_starts : (d : Draw) (state : SlotsState) (page : Page) (left at : ℕ) (label : Label) (hand : List ℕ)
    → IsLawful d → IsPage page → left ≡ d.slots → at ≡ d.start label → label ≡ page.label
    → hand ≡ slot_bytes (Some page)
    → Inserting d state state page left at label hand
inserting_starts d state page left at label hand law valid all_left here label_is hand_is =
    let first : at ≡ probe d.slots (d.start page.label) 0 =
    here ∙ ap d.start label_is ∙ probe_first d.slots (d.start page.label) (law.start_in_range page.label) in
    record {
      valid = valid;
      calls = AreSlotCalls-none state tt;
      looked = 0;
      all = omega (arith, all_left);
      place = first;
      carries = λ m observable room. carries_first d state.slots m page at label hand law
          room.holds room.free room.absent valid first label_is hand_is;
    }

pub inserting_within : (d : Draw) (old now : SlotsState) (page : Page) (left at : ℕ) (label : Label) (hand : List ℕ)
    → IsLawful d → Inserting d old now page left at label hand → at < d.slots
inserting_within d old now page left at label hand law s =
    subst (λ (n : ℕ). n < d.slots) (sym s.place)
    (probe_within d.slots (d.start page.label) s.looked (law.start_in_range page.label))

-- a fault of the slots
pub inserts_fault : {T : Type 0} (d : Draw) (old new : SlotsState) (page : Page) (fault : Fault)
    → AreSlotCalls {T = T} old new (Err fault) → Inserts {T = T} d old new page (Err fault)
inserts_fault d old new page fault calls = record { calls = calls; inserted = λ m observable room. tt }

-- what a read of the next slot shows
record Shows (d : Draw) (old now new : SlotsState) (m : PageMap) (page : Page) (looked at : ℕ) (label : Label)
    (hand buffer : List ℕ) : Type 0 where
  carries : Carries d now.slots (with_page m page) page.label looked at label hand
  sees : Seen carries.table at buffer

shows : (d : Draw) (old now new : SlotsState) (m : PageMap) (page : Page) (left at : ℕ) (label : Label)
    (hand buffer : List ℕ) → IsLawful d → (s : Inserting d old now page left at label hand)
    → IsGet {T = Unit {0}} now new at buffer (Ok tt)
    → IsObservable old → HasRoomFor d old.slots m page → Shows d old now new m page s.looked at label hand buffer
shows d old now new m page left at label hand buffer law s get observable room =
    let c = s.carries m observable room in
    let within : at < length c.table =
    omega (arith, inserting_within d old now page left at label hand law s, c.ordered.slots) in
    record {
      carries = c;
      sees = seen c.table now.slots at buffer c.slots_are within
          (get.observed (IsObservable-later old now (Ok tt) s.calls observable)).got;
    }

-- what the label that was read tells of the table
pub none_told : (what : Option Page) (buffer : List ℕ) (order : Option Label) → ((p : Page) → what ≡ Some p → IsPage p)
    → buffer ≡ slot_bytes what → ((page : Page) → IsPage page → buffer ≡ slot_bytes (Some page)
    → order ≡ Some page.label) → order ≡ None → what ≡ None
none_told None buffer order valid are told none = refl
none_told (Some p) buffer order valid are told none = let some = told p (valid p refl) are in cc

pub page_told : (what : Option Page) (buffer : List ℕ) (order : Option Label) (label : Label)
    → ((p : Page) → what ≡ Some p → IsPage p) → buffer ≡ slot_bytes what → (buffer ≡ slot_bytes None → order ≡ None)
    → ((page : Page) → IsPage page → buffer ≡ slot_bytes (Some page) → order ≡ Some page.label) → order ≡ Some label
    → (p : Page) × (what ≡ Some p) × (label ≡ p.label)
page_told None buffer order label valid are free told some = let none = free are in cc
page_told (Some p) buffer order label valid are free told some =
    (p, refl, same_Some label p.label (sym some ∙ told p (valid p refl) are))

-- the page in hand is written to a free slot
pub inserts_free : (d : Draw) (old now mid new : SlotsState) (page : Page) (left at : ℕ) (label : Label)
    (hand buffer : List ℕ) (order : Option Label) (result : Result (Unit {0}) Fault) → IsLawful d
    → Inserting d old now page left at label hand
    → IsGet {T = Unit {0}} now mid at buffer (Ok tt)
    → ((page : Page) → IsPage page → buffer ≡ slot_bytes (Some page) → order ≡ Some page.label) → order ≡ None
    → IsSet mid new at hand result → Inserts d old new page result
inserts_free d old now mid new page left at label hand buffer order result law s get told none set = record {
  calls = AreSlotCalls-then old mid new tt result before set.calls;
  inserted = λ m observable room. settled m observable room result set;
}
  where
    before : AreSlotCalls {T = Unit {0}} old mid (Ok tt)
    before = AreSlotCalls-then old now mid tt (Ok tt) s.calls get.calls

    settled : (m : PageMap) → IsObservable old → HasRoomFor d old.slots m page → (result : Result (Unit {0}) Fault)
        → IsSet mid new at hand result → OnOk result (HoldsPages d new.slots (with_page m page))
    settled m observable room (Err fault) set = tt
    settled m observable room (Ok u) set =
        let sh = shows d old now mid m page left at label hand buffer law s get observable room in
        let empty = none_told sh.sees.what buffer order
        (λ p same. seen_page d sh.carries.table at sh.sees.what p sh.carries.ordered sh.sees.there same)
        sh.sees.bytes_are told none in
        let same = (get.observed (IsObservable-later old now (Ok tt) s.calls observable)).slots in
        let written = (set.observed (IsObservable-later old mid (Ok tt) before observable)).written
        ∙ ap (λ (ss : List (List ℕ)). slice_set ss at hand) same in
        subst (λ (ss : List (List ℕ)). HoldsPages d ss (with_page m page)) (sym written)
        (settles d now.slots (with_page m page) page.label s.looked at label hand law
        (IsPageMap-with_page m page room.holds.pages s.valid) sh.carries (sh.sees.there ∙ ap Some empty))

-- it goes on over a smaller page
pub inserting_goes_on : (d : Draw) (old now new : SlotsState) (page : Page) (left later at next : ℕ)
    (label other : Label) (hand buffer : List ℕ) (order : Option Label) → IsLawful d
    → Inserting d old now page left at label hand
    → IsGet {T = Unit {0}} now new at buffer (Ok tt) → (buffer ≡ slot_bytes None → order ≡ None)
    → ((page : Page) → IsPage page → buffer ≡ slot_bytes (Some page) → order ≡ Some page.label) → order ≡ Some other
    → (label_cmp label other ≡ Less → ⊥) → next ≡ (at + 1) % d.slots → left ≡ later + 1
    → Inserting d old new page later next label hand
inserting_goes_on d old now new page left later at next label other hand buffer order law s get free told some not_less
    is_next one_fewer = record {
      valid = s.valid;
      calls = AreSlotCalls-then old now new tt (Ok tt) s.calls get.calls;
      looked = s.looked + 1;
      all = omega (arith, s.all, one_fewer);
      place = is_next ∙ probe_next d.slots (d.start page.label) s.looked at s.place;
      carries = λ m observable room.
          let sh = shows d old now new m page left at label hand buffer law s get observable room in
          let p = page_told sh.sees.what buffer order other
          (λ p same. seen_page d sh.carries.table at sh.sees.what p sh.carries.ordered sh.sees.there same)
          sh.sees.bytes_are free told some in
          let same = (get.observed (IsObservable-later old now (Ok tt) s.calls observable)).slots in
          subst (λ (ss : List (List ℕ)). Carries d ss (with_page m page) page.label (s.looked + 1) next label hand)
          (sym same)
          (carries_on d now.slots (with_page m page) page.label s.looked at next label hand p.0 law
          sh.carries s.place (sh.sees.there ∙ ap Some p.1)
          (λ less. not_less (ap (label_cmp label) p.2 ∙ less)) is_next);
    }

-- it takes the place of a greater page and goes on with that one
pub inserting_displaces : (d : Draw) (old now mid new : SlotsState) (page : Page) (left later at next : ℕ)
    (label other : Label) (hand buffer : List ℕ) (order : Option Label) → IsLawful d
    → Inserting d old now page left at label hand
    → IsGet {T = Unit {0}} now mid at buffer (Ok tt) → (buffer ≡ slot_bytes None → order ≡ None)
    → ((page : Page) → IsPage page → buffer ≡ slot_bytes (Some page) → order ≡ Some page.label) → order ≡ Some other
    → label_cmp label other ≡ Less → IsSet {T = Unit {0}} mid new at hand (Ok tt) → next ≡ (at + 1) % d.slots
    → left ≡ later + 1 → Inserting d old new page later next other buffer
inserting_displaces d old now mid new page left later at next label other hand buffer order law s get free told some
    less set is_next one_fewer = record {
      valid = s.valid;
      calls = AreSlotCalls-then old mid new tt (Ok tt) before set.calls;
      looked = s.looked + 1;
      all = omega (arith, s.all, one_fewer);
      place = is_next ∙ probe_next d.slots (d.start page.label) s.looked at s.place;
      carries = λ m observable room.
          let sh = shows d old now mid m page left at label hand buffer law s get observable room in
          let p = page_told sh.sees.what buffer order other
          (λ p same. seen_page d sh.carries.table at sh.sees.what p sh.carries.ordered sh.sees.there same)
          sh.sees.bytes_are free told some in
          let same = (get.observed (IsObservable-later old now (Ok tt) s.calls observable)).slots in
          let written = (set.observed (IsObservable-later old mid (Ok tt) before observable)).written
          ∙ ap (λ (ss : List (List ℕ)). slice_set ss at hand) same in
          subst (λ (ss : List (List ℕ)). Carries d ss (with_page m page) page.label (s.looked + 1) next other buffer)
          (sym written)
          (carries_displaced d now.slots (with_page m page) page.label s.looked at next label hand p.0 other buffer law
          sh.carries s.place (sh.sees.there ∙ ap Some p.1)
          (ap (label_cmp label) (sym p.2) ∙ less) is_next p.2 (sh.sees.bytes_are ∙ ap slot_bytes p.1));
    }
  where
    before : AreSlotCalls {T = Unit {0}} old mid (Ok tt)
    before = AreSlotCalls-then old now mid tt (Ok tt) s.calls get.calls

-- it can't have looked at all slots, since one is free
pub inserts_round : (d : Draw) (old now : SlotsState) (page : Page) (left at : ℕ) (label : Label) (hand : List ℕ)
    → left ≡ 0 → Inserting d old now page left at label hand → Inserts {T = Unit {0}} d old now page (Ok tt)
inserts_round d old now page left at label hand none s = record {
  calls = s.calls;
  inserted = λ m observable room. let c = s.carries m observable room
      in absurd (omega (arith, none, s.all, c.ahead, c.within));
}

-- the bytes of a page are those of its slot
pub slot_of_page : (page : Page) (bytes : List ℕ) → bytes ≡ page_bytes page → bytes ≡ slot_bytes (Some page)
unfolding slot_bytes
slot_of_page page bytes are = are

-- a comparison that was answered
pub is_less : (o : Ordering) → true ≡ is_lt o → o ≡ Less
is_less Less e = refl
is_less Equal e = cc
is_less Greater e = cc

pub is_not_less : (o : Ordering) → false ≡ is_lt o → o ≡ Less → ⊥
is_not_less o e less = false≢true (e ∙ ap is_lt less)

-- a fault of a write behind a read
pub inserts_unwritten : (d : Draw) (old now mid new : SlotsState) (page : Page) (left at : ℕ) (label : Label)
    (hand buffer : List ℕ) (fault : Fault) → Inserting d old now page left at label hand
    → IsGet {T = Unit {0}} now mid at buffer (Ok tt)
    → IsSet {T = Unit {0}} mid new at hand (Err fault) → Inserts {T = Unit {0}} d old new page (Err fault)
inserts_unwritten d old now mid new page left at label hand buffer fault s get set =
    inserts_fault d old new page fault
    (AreSlotCalls-then old mid new tt (Err fault)
    (AreSlotCalls-then old now mid tt (Ok tt) s.calls get.calls) set.calls)
