-- Lemmas on slots over a disk.
use Rattle.std.proofs.Common.{◌≡◌, ℕ, zero, suc, ◌+◌, ◌<◌, ◌≤◌, Bool, cond, List, ◌∷◌, map, Option, Some, None}
use Rattle.std.proofs.Common.{slice_get, slice_set, refl, sym, ap, ap₂, subst, ◌∙◌, arith}
use Rattle.std.specs.Prelude.{Result, Ok, Err}
use Rattle.std.specs.BTreeMap.{is_at}
use Rattle.std.specs.declared.cmp.Ordering.{Ordering}
use Rattle.std.specs.Ordering.{nat_cmp}
use Rattle.std.proofs.lemmas.Option.{same_Some}
use Rattle.store_model.specs.Lists.{numbers_from, numbers_below}
use Rattle.std.proofs.lemmas.Bool.{false≢true}
use Rattle.store_base.specs.declared.fault.DiskFault.{DiskFault}
use Rattle.store_base.specs.declared.store_fault.Fault.TheVariants as causes
use Rattle.store_base.specs.SlotsState.{IsGet, IsSet}
use Rattle.store_base.proofs.SlotsCalls.{AreSlotCalls-none}
use Rattle.store_model.specs.Parameters.{Parameters}
use Rattle.disk_model.specs.DiskState.{DiskState, IsObservable}
use Rattle.gate_journal.specs.Places.{AreCalls, ReadsOnly}
use Rattle.gate_journal.specs.ViewState.{KeepsView}
use Rattle.gate_journal.specs.Phases.{table_slot}
pub use Rattle.gate_journal.proofs.Slots.{get_number}
use Rattle.ordered_table.specs.Tables.{TellsOrder, Orders}
use Rattle.table_memory.specs.SlotCaches.{Kept, ReadsSlot, TellsOfSlot}
use Rattle.table_memory.specs.OverlayState.{touched_at, bytes_or, slot_over, overlaid}
use Rattle.page_store.specs.declared.label_order.LabelOrder.{LabelOrder}
use Rattle.table_memory.proofs.TouchedLemmas.{at_itself, at_other}

-- slots that are the same, one by one
same_numbers : (f g : ℕ → List ℕ) (first count : ℕ) → ((j : ℕ) → first ≤ j → j < first + count → g j ≡ f j)
    → map g (numbers_from first count) ≡ map f (numbers_from first count)
unfolding numbers_from
same_numbers f g first zero same = refl
same_numbers f g first (suc count) same =
    ap₂ (λ (x : List ℕ) (xs : List (List ℕ)). x ∷ xs) (same first (omega arith) (omega arith))
    (same_numbers f g (suc first) count (λ j low high. same j (omega arith) (omega arith)))

-- and slots of which one was set
set_number : (f g : ℕ → List ℕ) (first count at : ℕ) (slot : List ℕ) → at < count → g (first + at) ≡ slot
    → ((j : ℕ) → (j ≡ first + at → ⊥) → g j ≡ f j)
    → map g (numbers_from first count) ≡ slice_set (map f (numbers_from first count)) at slot
unfolding numbers_from
set_number f g first zero at slot below here others = absurd (omega arith)
set_number f g first (suc count) zero slot below here others =
    let first_is : first ≡ first + 0 = omega arith in
    ap₂ (λ (x : List ℕ) (xs : List (List ℕ)). x ∷ xs) (ap g first_is ∙ here)
    (same_numbers f g (suc first) count (λ j low high. others j (λ e. absurd (omega (arith, e)))))
set_number f g first (suc count) (suc at) slot below here others =
    let there : suc first + at ≡ first + suc at = omega arith in
    ap₂ (λ (x : List ℕ) (xs : List (List ℕ)). x ∷ xs) (others first (λ e. absurd (omega (arith, e))))
    (set_number f g (suc first) count at slot (omega arith) (ap g there ∙ here)
    (λ j other. others j (λ e. other (e ∙ sym there))))

-- a slot is written
pub slots_set : (slots : ℕ) (old new : List (ℕ × List ℕ)) (image : List ℕ) (at : ℕ) (slot : List ℕ) → at < slots
    → ((q : ℕ) → touched_at new q ≡ cond (is_at (nat_cmp at) q) (Some slot) (touched_at old q))
    → map (slot_over slots new image) (numbers_below slots)
    ≡ slice_set (map (slot_over slots old image) (numbers_below slots)) at slot
slots_set slots old new image at slot below updates =
    let here : 0 + at ≡ at = omega arith in
    set_number (slot_over slots old image) (slot_over slots new image) 0 slots at slot below
    (ap (slot_over slots new image) here ∙ ap (λ (o : Option (List ℕ)). bytes_or o (table_slot slots image at))
    (updates at ∙ ap (λ (b : Bool). cond b (Some slot) (touched_at old at)) (at_itself at)))
    (λ j other. ap (λ (o : Option (List ℕ)). bytes_or o (table_slot slots image j))
    (updates j ∙ ap (λ (b : Bool). cond b (Some slot) (touched_at old j))
    (at_other at j (is_at (nat_cmp at) j) refl (λ e. other (e ∙ sym here)))))

-- what stands in a slot over a disk
pub get_over : (slots : ℕ) (touched : List (ℕ × List ℕ)) (image : List ℕ) (at : ℕ) (bytes : Option (List ℕ))
    → at < slots → touched_at touched at ≡ bytes
    → slice_get (map (slot_over slots touched image) (numbers_below slots)) at
    ≡ Some (bytes_or bytes (table_slot slots image at))
get_over slots touched image at bytes below is =
    let here : 0 + at ≡ at = omega arith in
    get_number (slot_over slots touched image) 0 slots at below
    ∙ ap (λ (n : ℕ). Some (slot_over slots touched image n)) here
    ∙ ap (λ (o : Option (List ℕ)). Some (bytes_or o (table_slot slots image at))) is

-- the label in it is compared, where it was written
pub orders_touched : (slots : ℕ) (touched : List (ℕ × List ℕ)) (disk : DiskState) (at : ℕ) (slot wanted : List ℕ)
    (order : Option Ordering) → at < slots → touched_at touched at ≡ Some slot → TellsOrder slot wanted order
    → Orders (overlaid slots touched disk) (overlaid slots touched disk) at wanted (Ok order)
orders_touched slots touched disk at slot wanted order below written tells = record {
  calls = AreSlotCalls-none (overlaid slots touched disk) order;
  reads = λ observable. refl;
  told = λ there observable is. subst (λ (bytes : List ℕ). TellsOrder bytes wanted order)
      (same_Some slot there (sym (get_over slots touched disk.bytes at (Some slot) below written) ∙ is)) tells;
}

-- and where it was not
pub orders_below : (slots : ℕ) (touched : List (ℕ × List ℕ)) (old new : DiskState) (kept : Kept) (at : ℕ)
    (wanted : List ℕ) (told : LabelOrder) → at < slots → touched_at touched at ≡ None
    → TellsOfSlot slots at old new kept (λ slot told. TellsOrder slot wanted told.order) (Ok told)
    → Orders (overlaid slots touched old) (overlaid slots touched new) at wanted (Ok told.order)
orders_below slots touched old new kept at wanted told below unwritten tells = record {
  calls = record {
    count = refl;
    observable = tells.calls.observable;
    takes_none = refl;
    faults = tells.calls.faults;
    cause = tt;
  };
  reads = λ observable. ap (λ (image : List ℕ). map (slot_over slots touched image) (numbers_below slots))
      (tells.reads observable).bytes;
  told = λ there observable is.
      subst (λ (bytes : List ℕ). TellsOrder bytes wanted told.order)
      (same_Some (table_slot slots old.bytes at) there
      (sym (get_over slots touched old.bytes at None below unwritten) ∙ is)) (tells.told observable);
}

-- ---- what fails, and what is kept below

-- reads of the disk keep the view
pub view_read : {T : Type 0} (p : Parameters) (old new : DiskState) (result : Result T DiskFault)
    → AreCalls old new result → (IsObservable old → ReadsOnly old new) → KeepsView p p old new
view_read p old new result calls reads = record {
  params = refl;
  size = calls.size;
  observable = calls.observable;
  rise = calls.rise;
  writes = calls.writes;
  syncs = calls.syncs;
  reads = reads;
}

-- the disk failed where a label was compared
pub orders_failed : (slots : ℕ) (touched : List (ℕ × List ℕ)) (old new : DiskState) (kept : Kept) (at : ℕ)
    (wanted : List ℕ) (IsOf : List ℕ → LabelOrder → Type 0) (fault : DiskFault)
    → TellsOfSlot slots at old new kept IsOf (Err fault)
    → Orders (overlaid slots touched old) (overlaid slots touched new) at wanted (Err causes.Disk)
orders_failed slots touched old new kept at wanted IsOf fault tells = record {
  calls = record {
    count = refl;
    observable = tells.calls.observable;
    takes_none = refl;
    faults = tells.calls.faults;
    cause = tt;
  };
  reads = λ observable. ap (λ (image : List ℕ). map (slot_over slots touched image) (numbers_below slots))
      (tells.reads observable).bytes;
  told = λ slot observable there. tt;
}

-- and where a slot was read
pub get_failed : (slots : ℕ) (touched : List (ℕ × List ℕ)) (old new : DiskState) (kept : Kept) (at : ℕ)
    (buffer : List ℕ) (fault : DiskFault) → ReadsSlot slots at old new kept buffer {T = Unit {0}} (Err fault)
    → IsGet {T = Unit {0}} (overlaid slots touched old) (overlaid slots touched new) at buffer (Err causes.Disk)
get_failed slots touched old new kept at buffer fault read = record {
  calls = record {
    count = refl;
    observable = read.calls.observable;
    takes_none = refl;
    faults = read.calls.faults;
    cause = tt;
  };
  observed = λ observable. record {
    got = tt;
    slots = ap (λ (image : List ℕ). map (slot_over slots touched image) (numbers_below slots))
        (read.reads observable).bytes;
  };
}

-- there was no memory for a slot
pub set_refused : (slots : ℕ) (old new : List (ℕ × List ℕ)) (disk : DiskState) (at : ℕ) (slot : List ℕ) → new ≡ old
    → IsSet {T = Unit {0}} (overlaid slots old disk) (overlaid slots new disk) at slot (Err causes.NoMemory)
set_refused slots old new disk at slot same =
    subst (λ (touched : List (ℕ × List ℕ)). IsSet {T = Unit {0}} (overlaid slots old disk)
    (overlaid slots touched disk) at slot (Err causes.NoMemory)) (sym same) (record {
      calls = record {
        count = refl;
        observable = refl;
        takes_none = refl;
        faults = refl;
        cause = λ none. false≢true none;
      };
      observed = λ observable. record { written = tt; unchanged = refl };
    })
