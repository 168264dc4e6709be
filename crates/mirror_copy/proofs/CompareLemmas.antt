-- The loop that compares the slots of two tables, and what it finds in two images.
use Rattle.std.proofs.Common.{◌≡◌, ◌≢◌, ◌⊎◌, ℕ, ◌+◌, ◌<◌, ◌≤◌, List, [], ◌∷◌, ◌++◌, length, Bool, true, false, not}
use Rattle.std.proofs.Common.{Result, Ok, Err, Some, IfOk, slice_get, refl, sym, ap, subst, ◌∙◌, inl, inr, arith}
use Rattle.std.proofs.Common.{length-append}
use Rattle.std.specs.Cmp.Lexicographic.{bytes_decides}
use Rattle.std.specs.Result.{IsErrAnd}
use Rattle.std.proofs.lemmas.Bool.{not-false, not-true, false≢true}
use Rattle.std.proofs.lemmas.Option.{get_or_from_slice_get}
use Rattle.std.proofs.lemmas.Result.{err_from_is_err_and}
use Rattle.store_model.specs.Parameters.{Parameters}
use Rattle.store_model.specs.Lists.{same_bytes}
use Rattle.store_model.specs.Images.{recovered_slot}
use Rattle.store_base.specs.Counts.{raised}
use Rattle.store_base.specs.SlotsState.{SlotsState}
use Rattle.disk_model.specs.DiskState.{DiskState}
use Rattle.gate_journal.specs.Changes.{AreChanges}
use Rattle.gate_journal.specs.Disks.{KeepsDisk}
use Rattle.gate_journal.specs.ViewState.{viewed, KeepsView}
use Rattle.image_check.proofs.Images.{slot_at}
use Rattle.table_memory.specs.declared.changed.ChangedSlots.{ChangedSlots}
use Rattle.table_memory.specs.Differences.{AreDifferences}
use Rattle.table_memory.specs.SlotCaches.{changes_of}
use Rattle.table_memory.proofs.DifferLemmas.{rising_none, rising_later, rising_more, differences_none}
use Rattle.table_memory.proofs.DifferLemmas.{differences_later, differences_more, differences_as}
use Rattle.mirror_copy.specs.declared.fault.MirrorFault.{MirrorFault}
use Rattle.mirror_copy.specs.declared.fault.MirrorFault.TheVariants.{FromDisk, ToDisk, NoMemory}
use Rattle.mirror_copy.specs.Faults.{from_faults_after, to_faults_after}
use Rattle.mirror_copy.specs.MirrorCalls.{AreObservable, slot_of, AreReadSlots, GetsOrFails, FindsDifferences}
use Rattle.mirror_copy.specs.MirrorCalls.{ComparesSlots}

read_none : (slots : SlotsState) → AreReadSlots slots slots
read_none slots = record { count = refl; observable = refl; takes_none = refl; slots = λ observable. refl }

read_then : (old mid new : SlotsState) → AreReadSlots old mid → AreReadSlots mid new → AreReadSlots old new
read_then old mid new first after = record {
  count = after.count ∙ first.count;
  observable = after.observable ∙ first.observable;
  takes_none = after.takes_none ∙ first.takes_none;
  slots = λ observable. after.slots (first.observable ∙ observable) ∙ first.slots observable;
}

-- what a read behind others got is what the slot held at first
slot_read : (old mid : SlotsState) (at : ℕ) (buffer : List ℕ) → AreReadSlots old mid → AreObservable old
    → slice_get mid.slots at ≡ Some buffer → slot_of old.slots at ≡ buffer
slot_read old mid at buffer first observable is =
    get_or_from_slice_get old.slots at buffer []
    (ap (λ (all : List (List ℕ)). slice_get all at) (sym (first.slots observable)) ∙ is)

-- what the test of two slots tells
same_tested : (xs ys : List ℕ) (is_other : Bool) → is_other ≡ not (same_bytes xs ys) → is_other ≡ false → xs ≡ ys
same_tested xs ys is_other tested is = (bytes_decides xs ys).0 (not-false (same_bytes xs ys) (sym tested ∙ is))

other_tested : (xs ys : List ℕ) (is_other : Bool) → is_other ≡ not (same_bytes xs ys) → is_other ≡ true → xs ≢ ys
other_tested xs ys is_other tested is same =
    false≢true (sym (not-true (same_bytes xs ys) (sym tested ∙ is)) ∙ (bytes_decides xs ys).1 same)

-- the loop has come to this slot: these were found, and the others below it are equal
pub record IsComparing (from from_new to to_new : SlotsState) (items : List (ℕ × List ℕ)) (at : ℕ) : Type 0 where
  pub from_calls : AreReadSlots from from_new
  pub to_calls : AreReadSlots to to_new
  pub from_faults : from_new.faults ≡ from.faults
  pub to_faults : to_new.faults ≡ to.faults
  pub few : length items ≤ at
  pub rise : AreChanges at (changes_of items)
  pub differ : AreObservable from → AreObservable to
      → AreDifferences (slot_of to.slots) (slot_of from.slots) at (changes_of items)

pub comparing_begins : (from to : SlotsState) → IsComparing from from to to [] 0
comparing_begins from to = record {
  from_calls = read_none from;
  to_calls = read_none to;
  from_faults = refl;
  to_faults = refl;
  few = omega arith;
  rise = rising_none;
  differ = λ seen told. differences_none (slot_of to.slots) (slot_of from.slots);
}

-- no other answer than these
abbrev MayFail : MirrorFault → Type 0
MayFail fault = (fault ≡ FromDisk) ⊎ (fault ≡ ToDisk) ⊎ (fault ≡ NoMemory)

module _ (from from_new to to_new : SlotsState) where
  -- a failure is handed on
  stops : (fault : MirrorFault) → AreReadSlots from from_new → AreReadSlots to to_new → MayFail fault
      → from_new.faults ≡ from_faults_after {T = ChangedSlots} from.faults (Err fault)
      → to_new.faults ≡ to_faults_after {T = ChangedSlots} to.faults (Err fault)
      → FindsDifferences from from_new to to_new (Err fault)
  stops fault first second may from_faults to_faults = record {
    from_calls = first;
    to_calls = second;
    from_faults = from_faults;
    to_faults = to_faults;
    faults = may;
    rise = tt;
    differ = λ seen told. tt;
  }

  -- that of the first table, of the second, and want of memory
  stops_first : AreReadSlots from from_new → AreReadSlots to to_new → from_new.faults ≡ raised from.faults
      → to_new.faults ≡ to.faults → FindsDifferences from from_new to to_new (Err FromDisk)
  stops_first first second from_faults to_faults = stops FromDisk first second (inl refl) from_faults to_faults

  stops_second : AreReadSlots from from_new → AreReadSlots to to_new → from_new.faults ≡ from.faults
      → to_new.faults ≡ raised to.faults → FindsDifferences from from_new to to_new (Err ToDisk)
  stops_second first second from_faults to_faults = stops ToDisk first second (inr (inl refl)) from_faults to_faults

  stops_short : AreReadSlots from from_new → AreReadSlots to to_new → from_new.faults ≡ from.faults
      → to_new.faults ≡ to.faults → FindsDifferences from from_new to to_new (Err NoMemory)
  stops_short first second from_faults to_faults = stops NoMemory first second (inr (inr refl)) from_faults to_faults

-- what a `?` hands on
handed : (from from_new to to_new : SlotsState) (fault : MirrorFault) (result : Result ChangedSlots MirrorFault)
    → IsErrAnd result (λ e. e ≡ fault) → FindsDifferences from from_new to to_new (Err fault)
    → FindsDifferences from from_new to to_new result
handed from from_new to to_new fault result is finds =
    let err = err_from_is_err_and result is in
    subst (FindsDifferences from from_new to to_new) (sym (err.1 ∙ ap Err err.2)) finds

module _ (from from_now to to_now : SlotsState) (items : List (ℕ × List ℕ)) (at : ℕ)
    (so_far : IsComparing from from_now to to_now items at) where
  -- the first table's slot was not read
  pub first_fails : {T : Type 0} (new : SlotsState) (buffer : List ℕ) (got : Result T MirrorFault) (fault : MirrorFault)
      (result : Result ChangedSlots MirrorFault)
      → GetsOrFails from_now new at buffer FromDisk got → got ≡ Err fault → IsErrAnd result (λ e. e ≡ fault)
      → FindsDifferences from new to to_now result
  first_fails {T} new buffer got fault result read was is =
      let failed = subst (GetsOrFails {T = T} from_now new at buffer FromDisk) was read in
      let calls = read_then from from_now new so_far.from_calls failed.calls in
      handed from new to to_now fault result is (elim failed.ends [
        | inl disk ↦ subst (λ (f : MirrorFault). FindsDifferences from new to to_now (Err f)) (sym disk.0)
            (stops_first from new to to_now calls so_far.to_calls (disk.1
            ∙ ap raised so_far.from_faults) so_far.to_faults)
        | inr short ↦ subst (λ (f : MirrorFault). FindsDifferences from new to to_now (Err f)) (sym short.0)
            (stops_short from new to to_now calls so_far.to_calls (short.1 ∙ so_far.from_faults) so_far.to_faults)
      ])

  module _ {T : Type 0} (from_new : SlotsState) (buffer : List ℕ) (value : T)
      (from_read : GetsOrFails from_now from_new at buffer FromDisk (Ok value)) where
    calls_first : AreReadSlots from from_new
    calls_first = read_then from from_now from_new so_far.from_calls from_read.calls

    faults_first : from_new.faults ≡ from.faults
    faults_first = from_read.ends ∙ so_far.from_faults

    -- nor the second's
    pub second_fails : {U : Type 0} (new : SlotsState) (other : List ℕ) (got : Result U MirrorFault)
        (fault : MirrorFault) (result : Result ChangedSlots MirrorFault)
        → GetsOrFails to_now new at other ToDisk got → got ≡ Err fault → IsErrAnd result (λ e. e ≡ fault)
        → FindsDifferences from from_new to new result
    second_fails {U} new other got fault result read was is =
        let failed = subst (GetsOrFails {T = U} to_now new at other ToDisk) was read in
        let calls = read_then to to_now new so_far.to_calls failed.calls in
        handed from from_new to new fault result is (elim failed.ends [
          | inl disk ↦ subst (λ (f : MirrorFault). FindsDifferences from from_new to new (Err f)) (sym disk.0)
              (stops_second from from_new to new calls_first calls faults_first (disk.1 ∙ ap raised so_far.to_faults))
          | inr short ↦ subst (λ (f : MirrorFault). FindsDifferences from from_new to new (Err f)) (sym short.0)
              (stops_short from from_new to new calls_first calls faults_first (short.1 ∙ so_far.to_faults))
        ])

    module _ {U : Type 0} (to_new : SlotsState) (other : List ℕ) (done : U)
        (to_read : GetsOrFails to_now to_new at other ToDisk (Ok done)) where
      calls_second : AreReadSlots to to_new
      calls_second = read_then to to_now to_new so_far.to_calls to_read.calls

      faults_second : to_new.faults ≡ to.faults
      faults_second = to_read.ends ∙ so_far.to_faults

      -- no memory for a slot that differs
      pub keep_fails : (result : Result ChangedSlots MirrorFault) → IsErrAnd result (λ e. e ≡ NoMemory)
          → FindsDifferences from from_new to to_new result
      keep_fails result is = handed from from_new to to_new NoMemory result is
          (stops_short from from_new to to_new calls_first calls_second faults_first faults_second)

      first_is : AreObservable from → slot_of from.slots at ≡ buffer
      first_is seen = slot_read from from_now at buffer so_far.from_calls seen
          (from_read.got (so_far.from_calls.observable ∙ seen))

      second_is : AreObservable to → slot_of to.slots at ≡ other
      second_is told = slot_read to to_now at other so_far.to_calls told
          (to_read.got (so_far.to_calls.observable ∙ told))

      -- slots with the same bytes
      pub comparing_passes : (is_other : Bool) → is_other ≡ not (same_bytes buffer other) → is_other ≡ false
          → IsComparing from from_new to to_new items (at + 1)
      comparing_passes is_other tested is_so = record {
        from_calls = calls_first;
        to_calls = calls_second;
        from_faults = faults_first;
        to_faults = faults_second;
        few = omega (arith, so_far.few);
        rise = rising_later at (at + 1) (changes_of items) (omega arith) so_far.rise;
        differ = λ seen told.
            differences_later (slot_of to.slots) (slot_of from.slots) at (at + 1) (changes_of items) (omega arith)
            (λ i start below. let is : at ≡ i = omega (arith, start, below)
            in subst (λ (k : ℕ). slot_of to.slots k ≡ slot_of from.slots k) is
            (second_is told ∙ sym (same_tested buffer other is_other tested is_so) ∙ sym (first_is seen)))
            (so_far.differ seen told);
      }

      -- and with others
      pub comparing_finds : (is_other : Bool) → is_other ≡ not (same_bytes buffer other) → is_other ≡ true
          → length buffer ≡ 4096 → IsComparing from from_new to to_new (items ++ (at, buffer) ∷ []) (at + 1)
      comparing_finds is_other tested is_so long = record {
        from_calls = calls_first;
        to_calls = calls_second;
        from_faults = faults_first;
        to_faults = faults_second;
        few = omega (arith, so_far.few, length-append items ((at, buffer) ∷ []));
        rise = rising_more at items buffer so_far.rise long;
        differ = λ seen told.
            differences_more at items buffer (slot_of to.slots) (slot_of from.slots)
            (so_far.differ seen told) (sym (first_is seen))
            (λ same. other_tested buffer other is_other tested is_so (sym (first_is seen) ∙ sym same ∙ second_is told));
      }

-- all were compared
pub compared_all : (from from_new to to_new : SlotsState) (found : ChangedSlots) (at : ℕ) → at ≡ from.count
    → IsComparing from from_new to to_new found.slots.items at → FindsDifferences from from_new to to_new (Ok found)
compared_all from from_new to to_new found at is compared = record {
  from_calls = compared.from_calls;
  to_calls = compared.to_calls;
  from_faults = compared.from_faults;
  to_faults = compared.to_faults;
  faults = tt;
  rise = subst (λ (n : ℕ). AreChanges n (changes_of found.slots.items)) is compared.rise;
  differ = λ seen told. subst (λ (n : ℕ). AreDifferences (slot_of to.slots) (slot_of from.slots) n
      (changes_of found.slots.items)) is (compared.differ seen told);
}

-- ---- the slots that recovery leaves of two images

-- a view shows the slot that recovery leaves
slot_viewed : (slots : ℕ) (disk : DiskState) (i : ℕ) → i < slots
    → slot_of (viewed slots disk).slots i ≡ recovered_slot slots disk.bytes i
slot_viewed slots disk i low = get_or_from_slice_get (viewed slots disk).slots i (recovered_slot slots disk.bytes i) []
    (slot_at slots disk.bytes i low)

-- the slots that differ in the views are those that recovery leaves apart
views_differ : (slots : ℕ) (from to : DiskState) (result : Result ChangedSlots MirrorFault)
    → IfOk result (λ found. AreChanges slots (changes_of found.slots.items))
    → IfOk result (λ found. AreDifferences (slot_of (viewed slots to).slots) (slot_of (viewed slots from).slots) slots
    (changes_of found.slots.items))
    → IfOk result (λ found. AreDifferences (recovered_slot slots to.bytes) (recovered_slot slots from.bytes) slots
    (changes_of found.slots.items))
views_differ slots from to (Ok found) rise differ =
    differences_as (slot_of (viewed slots to).slots) (slot_of (viewed slots from).slots) (recovered_slot slots to.bytes)
    (recovered_slot slots from.bytes) slots (changes_of found.slots.items) rise
    (slot_viewed slots to) (slot_viewed slots from) differ
views_differ slots from to (Err fault) rise differ = tt

keeps_disk : (params params_new : Parameters) (old new : DiskState)
    → KeepsView params params_new old new → KeepsDisk old new
keeps_disk params params_new old new kept = record {
  size = kept.size;
  observable = kept.observable;
  faults = kept.rise;
  writes = kept.writes;
  syncs = kept.syncs;
}

-- two views whose slots were compared
pub views_compared : (slots : ℕ) (p p_new q q_new : Parameters) (from from_new to to_new : DiskState)
    (result : Result ChangedSlots MirrorFault) → p.slots ≡ slots → q.slots ≡ slots
    → KeepsView p p_new from from_new → KeepsView q q_new to to_new
    → FindsDifferences (viewed p.slots from) (viewed p_new.slots from_new) (viewed q.slots to)
    (viewed q_new.slots to_new) result
    → ComparesSlots slots from from_new to to_new result
views_compared slots p p_new q q_new from from_new to to_new result first second from_kept to_kept found = record {
  calls = record {
    from_kept = keeps_disk p p_new from from_new from_kept;
    to_kept = keeps_disk q q_new to to_new to_kept;
    from_faults = found.from_faults;
    to_faults = found.to_faults;
    from_reads = from_kept.reads;
  };
  to_reads = to_kept.reads;
  faults = found.faults;
  rise = rise;
  differ = λ seen told.
      views_differ slots from to result rise
      (subst (λ (n : ℕ). IfOk result
      (λ found. AreDifferences (slot_of (viewed slots to).slots) (slot_of (viewed slots from).slots) n
      (changes_of found.slots.items))) first
      (subst (λ (n : ℕ). IfOk result
      (λ found. AreDifferences (slot_of (viewed n to).slots)
      (slot_of (viewed slots from).slots) p.slots (changes_of found.slots.items))) second
      (subst (λ (n : ℕ). IfOk result
      (λ found. AreDifferences (slot_of (viewed q.slots to).slots)
      (slot_of (viewed n from).slots) p.slots (changes_of found.slots.items))) first (found.differ seen told))));
}
  where
    rise : IfOk result (λ found. AreChanges slots (changes_of found.slots.items))
    rise = subst (λ (n : ℕ). IfOk result (λ found. AreChanges n (changes_of found.slots.items))) first found.rise
