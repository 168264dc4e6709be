-- What a slot that was read tells of a table.
use Rattle.std.proofs.Common.{◌≡◌, ℕ, ◌<◌, List, Option, Some, None, slice_get, refl, ap, sym, ◌∙◌, arith}
use Rattle.std.specs.Prelude.{Ok, Err}
use Rattle.std.proofs.lemmas.Option.{same_Some}
use Rattle.store_model.specs.Labels.{Label}
use Rattle.store_model.specs.Pages.{Page, IsPage}
use Rattle.store_model.specs.Placement.{Table, HoldsPage}
use Rattle.store_model.specs.Images.{slot_bytes}
use Rattle.store_model.proofs.ImagesLemmas.{IsSlot}
use Rattle.store_model.proofs.PlacementLemmasTables.{held_page}
use Rattle.store_model.proofs.TreesLemmasBytes.{slots_same}
use Rattle.store_base.specs.declared.store_fault.Fault.{Fault}
use Rattle.store_base.specs.SlotsState.{SlotsState, IsObservable, AreSlotCalls, IsGet}
use Rattle.store_base.proofs.SlotsCalls.{AreSlotCalls-none, AreSlotCalls-then, AreSlotCalls-fault, IsObservable-later}
use Rattle.ordered_table.proofs.Reading.{Seen, seen}
use Rattle.table_walk.specs.Rounds.{IsTable}

-- ---- reads one after the other

-- slots were read, and no call failed
pub record AreRead (old now : SlotsState) : Type 0 where
  pub calls : AreSlotCalls {T = Unit {0}} old now (Ok tt)
  pub same : IsObservable old → now.slots ≡ old.slots

pub read_none : (state : SlotsState) → AreRead state state
read_none state = record { calls = AreSlotCalls-none state tt; same = λ observable. refl }

-- reads, and then others
pub read_then : (old mid new : SlotsState) → AreRead old mid → AreRead mid new → AreRead old new
read_then old mid new first then = record {
  calls = AreSlotCalls-then old mid new tt (Ok tt) first.calls then.calls;
  same = λ observable. then.same (IsObservable-later old mid (Ok tt) first.calls observable) ∙ first.same observable;
}

-- one more
pub read_more : (old mid new : SlotsState) (at : ℕ) (bytes : List ℕ) → AreRead old mid
    → IsGet {T = Unit {0}} mid new at bytes (Ok tt) → AreRead old new
read_more old mid new at bytes so_far get =
    read_then old mid new so_far (record { calls = get.calls; same = λ observable. (get.observed observable).slots })

-- which tells the bytes of its slot
pub read_bytes : (old mid new : SlotsState) (at : ℕ) (bytes : List ℕ) → AreRead old mid
    → IsGet {T = Unit {0}} mid new at bytes (Ok tt) → IsObservable old → slice_get old.slots at ≡ Some bytes
read_bytes old mid new at bytes so_far get observable =
    ap (λ (ss : List (List ℕ)). slice_get ss at) (sym (so_far.same observable))
    ∙ (get.observed (IsObservable-later old mid (Ok tt) so_far.calls observable)).got

-- reads that end with a fault
pub record EndsRead (T : Type 0) (old new : SlotsState) (fault : Fault) : Type 0 where
  pub calls : AreSlotCalls {T = T} old new (Err fault)
  pub same : IsObservable old → new.slots ≡ old.slots

pub read_fault : {T U : Type 0} (old mid new : SlotsState) (fault : Fault) → AreRead old mid
    → AreSlotCalls {T = T} mid new (Err fault) → (IsObservable mid → new.slots ≡ mid.slots) → EndsRead U old new fault
read_fault {T} {U} old mid new fault so_far calls same = record {
  calls = AreSlotCalls-fault old new fault (AreSlotCalls-then old mid new tt (Err fault) so_far.calls calls);
  same = λ observable. same (IsObservable-later old mid (Ok tt) so_far.calls observable) ∙ so_far.same observable;
}

-- ---- what a table holds in a slot that was read

pub read_table : (count : ℕ) (slots : List (List ℕ)) (table : Table) (at : ℕ) (bytes : List ℕ)
    → IsTable count slots table → at < count → slice_get slots at ≡ Some bytes → Seen table at bytes
read_table count slots table at bytes is below got = let long = is.length_is
    in seen table slots at bytes is.slots_are (omega (arith, long, below)) got

-- it may stand there
pub seen_slot : (count : ℕ) (slots : List (List ℕ)) (table : Table) (at : ℕ) (bytes : List ℕ)
    → IsTable count slots table → (s : Seen table at bytes) → IsSlot s.what
seen_slot count slots table at bytes is s = by_case s.what refl
  where
    by_case : (what : Option Page) → s.what ≡ what → IsSlot what
    by_case None same = tt
    by_case (Some page) same = held_page table at page is.pages (s.there ∙ ap Some same)

-- the bytes of a free slot tell that it is free
pub seen_free : (count : ℕ) (slots : List (List ℕ)) (table : Table) (at : ℕ) (bytes : List ℕ)
    → IsTable count slots table → (s : Seen table at bytes) → bytes ≡ slot_bytes None → slice_get table at ≡ Some None
seen_free count slots table at bytes is s zero =
    s.there ∙ ap Some (slots_same s.what None (seen_slot count slots table at bytes is s) tt (sym s.bytes_are ∙ zero))

-- and those of a page tell the page
pub seen_held : (count : ℕ) (slots : List (List ℕ)) (table : Table) (at : ℕ) (bytes : List ℕ) (page : Page)
    → IsTable count slots table → (s : Seen table at bytes) → IsPage page → bytes ≡ slot_bytes (Some page)
    → HoldsPage table at page
seen_held count slots table at bytes page is s valid spells =
    s.there ∙ ap Some (slots_same s.what (Some page) (seen_slot count slots table at bytes is s) valid
    (sym s.bytes_are ∙ spells))

-- in a slot of a table a label is read where it holds a page of this label
pub seen_label : (count : ℕ) (slots : List (List ℕ)) (table : Table) (at : ℕ) (bytes : List ℕ) (read : Option Label)
    (label : Label) → IsTable count slots table → Seen table at bytes
    → (bytes ≡ slot_bytes None → read ≡ None)
    → ((page : Page) → IsPage page → bytes ≡ slot_bytes (Some page) → read ≡ Some page.label) → read ≡ Some label
    → (page : Page) × HoldsPage table at page × (page.label ≡ label)
seen_label count slots table at bytes read label is s free held got =
    by_case s.what refl (seen_slot count slots table at bytes is s)
  where
    by_case : (what : Option Page) → s.what ≡ what → IsSlot s.what
        → (page : Page) × HoldsPage table at page × (page.label ≡ label)
    by_case None same valid = let none = free (s.bytes_are ∙ ap slot_bytes same) in absurd cc
    by_case (Some page) same valid = (
      page,
      s.there ∙ ap Some same,
      same_Some page.label label
          (sym (held page (held_page table at page is.pages (s.there ∙ ap Some same))
          (s.bytes_are ∙ ap slot_bytes same)) ∙ got),
    )

-- and where none is read it is free
pub seen_no_label : (count : ℕ) (slots : List (List ℕ)) (table : Table) (at : ℕ) (bytes : List ℕ) (read : Option Label)
    → IsTable count slots table → Seen table at bytes
    → ((page : Page) → IsPage page → bytes ≡ slot_bytes (Some page) → read ≡ Some page.label) → read ≡ None
    → slice_get table at ≡ Some None
seen_no_label count slots table at bytes read is s held got = by_case s.what refl
  where
    by_case : (what : Option Page) → s.what ≡ what → slice_get table at ≡ Some None
    by_case None same = s.there ∙ ap Some same
    by_case (Some page) same = let some =
        held page (held_page table at page is.pages (s.there ∙ ap Some same)) (s.bytes_are ∙ ap slot_bytes same)
        in absurd cc
