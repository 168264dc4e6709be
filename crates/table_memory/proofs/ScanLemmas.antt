-- The loop that compares the slots that were written with those of the disk.
use Rattle.std.proofs.Common.{◌≡◌, ◌↔◌, ℕ, ◌+◌, ◌<◌, ◌≤◌, List, [], ◌∷◌, ◌++◌, length, Bool, true, false, cond, IsTrue}
use Rattle.std.proofs.Common.{Option, Some, None, Ok, Err, refl, sym, ap, subst, ◌∙◌, inl, inr, arith, length-append}
use Rattle.std.specs.declared.cmp.Ordering.TheVariants.{Less}
use Rattle.std.specs.List.{AllByRecursion}
use Rattle.std.specs.List.Sorted.{IsStrictlySortedBy}
use Rattle.std.specs.Map.{keys_of}
use Rattle.std.specs.BTreeMap.{is_at}
use Rattle.std.specs.Ordering.{nat_cmp}
use Rattle.std.proofs.lemmas.Bool.{cases_lt, false≢true}
use Rattle.std.proofs.lemmas.Cmp.{ranked}
use Rattle.std.proofs.lemmas.Map.Keys.{sorted_head, sorted_tail}
use Rattle.std.proofs.lemmas.Option.{none-some}
use Rattle.store_base.specs.declared.fault.DiskFault.{DiskFault}
use Rattle.store_base.specs.declared.store_fault.Fault.TheVariants as causes
use Rattle.disk_model.specs.DiskState.{DiskState, IsObservable, IsSound}
use Rattle.gate_journal.specs.Changes.{AreChanges}
use Rattle.gate_journal.specs.Phases.{table_slot}
use Rattle.gate_journal.specs.Places.{AreCalls, ReadsOnly}
use Rattle.gate_journal.proofs.Calls.{AreCalls-none, AreCalls-answered, AreCalls-then, observable_after}
use Rattle.gate_journal.proofs.Reading.{ReadsOnly-refl, ReadsOnly-trans}
use Rattle.table_memory.specs.declared.changed.ChangedSlots.{ChangedSlots}
use Rattle.table_memory.specs.SlotCaches.{Kept, IsSlotCacheOf, changes_of, TellsOfSlot}
use Rattle.table_memory.specs.Differences.{AreDifferences}
use Rattle.table_memory.specs.OverlayState.{touched_at, bytes_or, slot_over}
use Rattle.table_memory.specs.Comparing.{FindsChanges}
use Rattle.table_memory.proofs.CacheLemmas.{last_or_below}
use Rattle.table_memory.proofs.TouchedLemmas.{at_itself, at_other}
use Rattle.table_memory.proofs.DifferLemmas.{rising_none, rising_later, rising_more, differences_none}
use Rattle.table_memory.proofs.DifferLemmas.{differences_later, differences_more}

-- whether a slot has just these bytes
abbrev pub IsSameAs : List ℕ → List ℕ → Bool → Type 0
IsSameAs bytes slot is_same = IsTrue is_same ↔ (slot ≡ bytes)

-- the loop has come so far: these slots were found, of those below a bound, and the others are at or above it
pub record IsScanning (slots : ℕ) (written : List (ℕ × List ℕ)) (old now : DiskState)
    (items rest : List (ℕ × List ℕ)) : Type 0 where
  pub calls : AreCalls {T = Unit {0}} {E = DiskFault} old now (Ok tt)
  pub reads : IsObservable old → ReadsOnly old now
  pub sorted : IsStrictlySortedBy nat_cmp (keys_of rest)
  pub bound : ℕ
  pub within : bound ≤ slots
  pub few : length items ≤ bound
  pub rise : AreChanges bound (changes_of items)
  pub ahead : (i : ℕ) → bound ≤ i → touched_at rest i ≡ touched_at written i
  pub past : (i : ℕ) (slot : List ℕ) → touched_at rest i ≡ Some slot → bound ≤ i
  pub differ : IsObservable old → AreDifferences (table_slot slots old.bytes)
      (slot_over slots written old.bytes) bound (changes_of items)

pub scanning_begins : (slots : ℕ) (written : List (ℕ × List ℕ)) (disk : DiskState) → (IsObservable disk → IsSound disk)
    → IsStrictlySortedBy nat_cmp (keys_of written) → IsScanning slots written disk disk [] written
scanning_begins slots written disk sound sorted = record {
  calls = AreCalls-none disk tt;
  reads = λ observable. ReadsOnly-refl disk (sound observable);
  sorted = sorted;
  bound = 0;
  within = omega arith;
  few = omega arith;
  rise = rising_none;
  ahead = λ i low. refl;
  past = λ i slot is. omega arith;
  differ = λ observable. differences_none (table_slot slots disk.bytes) (slot_over slots written disk.bytes);
}

-- no slot was written up to one that is before all others
none_before : (at : ℕ) (rest : List (ℕ × List ℕ)) (i : ℕ) → AllByRecursion (λ k. nat_cmp at k ≡ Less) (keys_of rest)
    → i ≤ at → touched_at rest i ≡ None
none_before at [] i later low = refl
none_before at (e ∷ rest) i later low =
    let above : at < e.0 = ranked at e.0 Less (sym later.0) in
    let apart : is_at (nat_cmp i) e.0 ≡ false =
    at_other i e.0 (is_at (nat_cmp i) e.0) refl (λ same. absurd (omega (arith, above, same, low))) in
    ap (λ (b : Bool). cond b (Some e.1) (touched_at rest i)) apart ∙ none_before at rest i later.1 low

module _ (slots : ℕ) (written : List (ℕ × List ℕ)) (within : (i : ℕ) (slot : List ℕ) → touched_at written i ≡ Some slot
    → i < slots) (filled : (i : ℕ) (slot : List ℕ) → touched_at written i ≡ Some slot → length slot ≡ 4096)
    (old now new : DiskState)
    (items rest left : List (ℕ × List ℕ)) (at : ℕ) (slot : List ℕ) (next : rest ≡ (at, slot) ∷ left)
    (so_far : IsScanning slots written old now items rest) where
  here : IsScanning slots written old now items ((at, slot) ∷ left)
  here = subst (λ (es : List (ℕ × List ℕ)). IsScanning slots written old now items es) next so_far

  -- what was written to the next slot
  low : here.bound ≤ at
  low = here.past at slot (ap (λ (b : Bool). cond b (Some slot) (touched_at left at)) (at_itself at))

  written_at : touched_at written at ≡ Some slot
  written_at = sym (here.ahead at low) ∙ ap (λ (b : Bool). cond b (Some slot) (touched_at left at)) (at_itself at)

  pub next_below : at < slots
  next_below = within at slot written_at

  next_long : length slot ≡ 4096
  next_long = filled at slot written_at

  later : AllByRecursion (λ k. nat_cmp at k ≡ Less) (keys_of left)
  later = sorted_head nat_cmp at (keys_of left) here.sorted

  sorted_left : IsStrictlySortedBy nat_cmp (keys_of left)
  sorted_left = sorted_tail nat_cmp at (keys_of left) here.sorted

  -- at another slot what was written is that of those that are left
  at_left : (i : ℕ) → (at ≡ i → ⊥) → touched_at ((at, slot) ∷ left) i ≡ touched_at left i
  at_left i other = ap (λ (b : Bool). cond b (Some slot) (touched_at left i))
      (at_other i at (is_at (nat_cmp i) at) refl other)

  ahead_left : (i : ℕ) → at + 1 ≤ i → touched_at left i ≡ touched_at written i
  ahead_left i above = sym (at_left i (λ same. absurd (omega (arith, above, same))))
      ∙ here.ahead i (let start = low in omega (arith, start, above))

  past_left : (i : ℕ) (other : List ℕ) → touched_at left i ≡ Some other → at + 1 ≤ i
  past_left i other is = elim (cases_lt at i) [
    | inl above ↦ omega (arith, above)
    | inr behind ↦ absurd (none-some other (sym (none_before at left i later behind) ∙ is))
  ]

  -- slots that were not written have the bytes of the disk
  passed : (image : List ℕ) (i : ℕ) → here.bound ≤ i → i < at
      → table_slot slots image i ≡ slot_over slots written image i
  passed image i start below =
      let none : touched_at written i ≡ None = sym (here.ahead i start)
      ∙ at_left i (λ same. absurd (omega (arith, below, same)))
      ∙ none_before at left i later (omega (arith, below)) in
      sym (ap (λ (o : Option (List ℕ)). bytes_or o (table_slot slots image i)) none)

  has_bytes : (image : List ℕ) → slot ≡ slot_over slots written image at
  has_bytes image = sym (ap (λ (o : Option (List ℕ)). bytes_or o (table_slot slots image at)) written_at)

  -- what is left was written
  pub left_after : (i : ℕ) (other : List ℕ) → touched_at left i ≡ Some other → touched_at written i ≡ Some other
  left_after i other is = sym (ahead_left i (past_left i other is)) ∙ is

  module _ (kept : Kept) (is_same : Bool) (read : TellsOfSlot slots at now new kept (IsSameAs slot) (Ok is_same)) where
    calls_read : AreCalls {T = Unit {0}} {E = DiskFault} old new (Ok tt)
    calls_read = AreCalls-answered old new is_same tt (AreCalls-then old now new tt (Ok is_same) here.calls read.calls)

    reads_read : IsObservable old → ReadsOnly old new
    reads_read observable = ReadsOnly-trans old now new (here.reads observable)
        (read.reads (observable_after old now _ here.calls observable))

    shows : IsObservable old → IsSameAs slot (table_slot slots old.bytes at) is_same
    shows observable = subst (λ (image : List ℕ). IsSameAs slot (table_slot slots image at) is_same)
        (here.reads observable).bytes (read.told (observable_after old now _ here.calls observable))

    -- a slot with the same bytes
    pub scanning_passes : is_same ≡ true → IsScanning slots written old new items left
    scanning_passes same = record {
      calls = calls_read;
      reads = reads_read;
      sorted = sorted_left;
      bound = at + 1;
      within = let below = next_below in omega (arith, below);
      few = let start = low in omega (arith, here.few, start);
      rise = rising_later here.bound (at + 1) (changes_of items) (let start = low in omega (arith, start)) here.rise;
      ahead = ahead_left;
      past = past_left;
      differ = λ observable.
          differences_later (table_slot slots old.bytes) (slot_over slots written old.bytes) here.bound (at + 1)
          (changes_of items) (let start = low in omega (arith, start))
          (λ i start below. elim (last_or_below at i below) [
            | inl less ↦ passed old.bytes i start less
            | inr is ↦ subst (λ (k : ℕ). table_slot slots old.bytes k ≡ slot_over slots written old.bytes k) (sym is)
                ((shows observable).0 same ∙ has_bytes old.bytes)
          ]) (here.differ observable);
    }

    -- and one with others
    pub scanning_finds : is_same ≡ false → IsScanning slots written old new (items ++ (at, slot) ∷ []) left
    scanning_finds other = record {
      calls = calls_read;
      reads = reads_read;
      sorted = sorted_left;
      bound = at + 1;
      within = let below = next_below in omega (arith, below);
      few = let start = low in omega (arith, here.few, start, length-append items ((at, slot) ∷ []));
      rise = rising_more at items slot (rising_later here.bound at (changes_of items) low here.rise) next_long;
      ahead = ahead_left;
      past = past_left;
      differ = λ observable.
          differences_more at items slot (table_slot slots old.bytes) (slot_over slots written old.bytes)
          (differences_later (table_slot slots old.bytes) (slot_over slots written old.bytes) here.bound at
          (changes_of items) low (passed old.bytes) (here.differ observable))
          (has_bytes old.bytes)
          (λ same. false≢true (sym other ∙ (shows observable).1 (same ∙ sym (has_bytes old.bytes))));
    }

-- what is left over was written
pub left_over : (slots : ℕ) (written : List (ℕ × List ℕ)) (old now : DiskState) (items rest : List (ℕ × List ℕ))
    → IsScanning slots written old now items rest → (i : ℕ) (slot : List ℕ) → touched_at rest i ≡ Some slot
    → touched_at written i ≡ Some slot
left_over slots written old now items rest so_far i slot is = sym (so_far.ahead i (so_far.past i slot is)) ∙ is

-- all were compared
pub found_all : (slots : ℕ) (written : List (ℕ × List ℕ)) (old now : DiskState) (kept : Kept) (found : ChangedSlots)
    → IsSlotCacheOf slots now kept → IsScanning slots written old now found.slots.items []
    → FindsChanges slots written old now kept (Ok found)
found_all slots written old now kept found cached scanned = record {
  kept = record {
    size = scanned.calls.size;
    observable = scanned.calls.observable;
    faults = scanned.calls.rise;
    writes = scanned.calls.writes;
    syncs = scanned.calls.syncs;
  };
  cached = cached;
  faults = scanned.calls.faults;
  reads = scanned.reads;
  rise = rising_later scanned.bound slots (changes_of found.slots.items) scanned.within scanned.rise;
  differ = λ observable.
      differences_later (table_slot slots old.bytes) (slot_over slots written old.bytes) scanned.bound slots
      (changes_of found.slots.items) scanned.within
      (λ i start below. ap (λ (o : Option (List ℕ)). bytes_or o (table_slot slots old.bytes i)) (scanned.ahead i start))
      (scanned.differ observable);
}

-- there was no memory for as many slots as were written
pub none_reserved : (slots : ℕ) (written : List (ℕ × List ℕ)) (disk : DiskState) (kept : Kept)
    → (IsObservable disk → IsSound disk) → IsSlotCacheOf slots disk kept
    → FindsChanges slots written disk disk kept (Err causes.NoMemory)
none_reserved slots written disk kept sound cached =
    let calls : AreCalls {T = Unit {0}} {E = DiskFault} disk disk (Ok tt) = AreCalls-none disk tt in
    record {
      kept = record {
        size = calls.size;
        observable = calls.observable;
        faults = calls.rise;
        writes = calls.writes;
        syncs = calls.syncs;
      };
      cached = cached;
      faults = calls.faults;
      reads = λ observable. ReadsOnly-refl disk (sound observable);
      rise = tt;
      differ = λ observable. tt;
    }

-- there was no memory for a slot that differs
pub none_found : (slots : ℕ) (written : List (ℕ × List ℕ)) (old now new : DiskState) (items rest : List (ℕ × List ℕ))
    (at : ℕ) (slot : List ℕ) (kept : Kept) (is_same : Bool) → IsScanning slots written old now items rest
    → TellsOfSlot slots at now new kept (IsSameAs slot) (Ok is_same)
    → FindsChanges slots written old new kept (Err causes.NoMemory)
none_found slots written old now new items rest at slot kept is_same scanned read =
    let calls : AreCalls {T = Unit {0}} {E = DiskFault} old new (Ok tt) =
    AreCalls-answered old new is_same tt (AreCalls-then old now new tt (Ok is_same) scanned.calls read.calls) in
    record {
      kept = record {
        size = calls.size;
        observable = calls.observable;
        faults = calls.rise;
        writes = calls.writes;
        syncs = calls.syncs;
      };
      cached = read.cached;
      faults = calls.faults;
      reads = λ observable. ReadsOnly-trans old now new (scanned.reads observable)
          (read.reads (observable_after old now _ scanned.calls observable));
      rise = tt;
      differ = λ observable. tt;
    }
