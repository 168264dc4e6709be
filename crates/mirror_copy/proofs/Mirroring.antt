-- The calls of a mirror, one after another.
use Rattle.std.proofs.Common.{◌≡◌, ℕ, List, refl, sym, ap, ◌∙◌, subst, ⊎_elim, arith, Result, Ok, Err}
use Rattle.store_model.specs.Parameters.{Parameters}
use Rattle.store_model.specs.Images.{recovered_slot, recovered}
use Rattle.disk_model.specs.DiskState.{DiskState, IsObservable}
use Rattle.store_base.specs.Counts.{raised}
use Rattle.gate_journal.specs.Changes.{Changes, with_slots}
use Rattle.gate_journal.specs.Disks.{KeepsDisk}
use Rattle.gate_journal.specs.Places.{AreCalls, ReadsOnly}
use Rattle.gate_journal.specs.ReadingLaws.{ReadsOnly-trans}
use Rattle.image_check.proofs.Images.{one_name}
use Rattle.table_memory.specs.declared.changed.ChangedSlots.{ChangedSlots}
use Rattle.table_memory.specs.Differences.{AreDifferences}
use Rattle.table_memory.specs.SlotCaches.{changes_of}
use Rattle.mirror_copy.specs.declared.fault.MirrorFault.{MirrorFault}
use Rattle.mirror_copy.specs.declared.fault.MirrorFault.TheVariants.{FromNotImage, FromDamaged, ToNotImage, Unequal}
use Rattle.mirror_copy.specs.declared.fault.MirrorFault.TheVariants.{FromDisk, ToDisk, NoMemory}
use Rattle.mirror_copy.specs.Differing.{slots_differing}
use Rattle.mirror_copy.specs.Faults.{from_faults_after, to_faults_after}
use Rattle.mirror_copy.specs.Pairs.{IsCause}
use Rattle.mirror_copy.specs.MirrorCalls.{CallsBoth, RewritesImage, BecomesFirst, Mirrors, JudgesPair, ComparesSlots}
use Rattle.mirror_copy.proofs.Becoming.{becomes_first}
use Rattle.mirror_copy.proofs.Rewriting.{only_read, behind_reads, rewrites_answered, rewrites_failed}

-- ---- calls on both disks

KeepsDisk-trans : (old mid new : DiskState) → KeepsDisk old mid → KeepsDisk mid new → KeepsDisk old new
KeepsDisk-trans old mid new first second = record {
  size = second.size ∙ first.size;
  observable = second.observable ∙ first.observable;
  faults = omega (arith, first.faults, second.faults);
  writes = omega (arith, first.writes, second.writes);
  syncs = omega (arith, first.syncs, second.syncs);
}

KeepsDisk-calls : {T E : Type 0} (old new : DiskState) (result : Result T E)
    → AreCalls old new result → KeepsDisk old new
KeepsDisk-calls old new result calls = record {
  size = calls.size;
  observable = calls.observable;
  faults = calls.rise;
  writes = calls.writes;
  syncs = calls.syncs;
}

-- a fault that is handed on counts as it did
from_counts : (T U : Type 0) (count : ℕ) (fault : MirrorFault)
    → from_faults_after {T = T} count (Err fault) ≡ from_faults_after {T = U} count (Err fault)
from_counts T U count FromNotImage = refl
from_counts T U count FromDamaged = refl
from_counts T U count ToNotImage = refl
from_counts T U count (Unequal p q) = refl
from_counts T U count FromDisk = refl
from_counts T U count ToDisk = refl
from_counts T U count NoMemory = refl

to_counts : (T U : Type 0) (count : ℕ) (fault : MirrorFault)
    → to_faults_after {T = T} count (Err fault) ≡ to_faults_after {T = U} count (Err fault)
to_counts T U count FromNotImage = refl
to_counts T U count FromDamaged = refl
to_counts T U count ToNotImage = refl
to_counts T U count (Unequal p q) = refl
to_counts T U count FromDisk = refl
to_counts T U count ToDisk = refl
to_counts T U count NoMemory = refl

module _ (from from_new to to_new : DiskState) where
  CallsBoth-failed : (T U : Type 0) (fault : MirrorFault) → CallsBoth {T = T} from from_new to to_new (Err fault)
      → CallsBoth {T = U} from from_new to to_new (Err fault)
  CallsBoth-failed T U fault calls = record {
    from_kept = calls.from_kept;
    to_kept = calls.to_kept;
    from_faults = calls.from_faults ∙ from_counts T U from.faults fault;
    to_faults = calls.to_faults ∙ to_counts T U to.faults fault;
    from_reads = calls.from_reads;
  }

  -- calls that answered Ok, and then others
  CallsBoth-then : {T U : Type 0} (from_mid to_mid : DiskState) (value : U) (result : Result T MirrorFault)
      → CallsBoth from from_mid to to_mid (Ok value) → CallsBoth from_mid from_new to_mid to_new result
      → CallsBoth from from_new to to_new result
  CallsBoth-then from_mid to_mid value result first second = record {
    from_kept = KeepsDisk-trans from from_mid from_new first.from_kept second.from_kept;
    to_kept = KeepsDisk-trans to to_mid to_new first.to_kept second.to_kept;
    from_faults = second.from_faults ∙ ap (λ (count : ℕ). from_faults_after count result) first.from_faults;
    to_faults = second.to_faults ∙ ap (λ (count : ℕ). to_faults_after count result) first.to_faults;
    from_reads = λ observable. ReadsOnly-trans from from_mid from_new (first.from_reads observable)
        (second.from_reads (first.from_kept.observable ∙ observable));
  }

  -- and calls of the second disk behind them
  CallsBoth-second : {T U V E : Type 0} (to_mid : DiskState) (value : U) (other : V) (answer : T)
      → CallsBoth from from_new to to_mid (Ok value) → AreCalls {E = E} to_mid to_new (Ok other)
      → CallsBoth from from_new to to_new (Ok answer)
  CallsBoth-second to_mid value other answer first calls = record {
    from_kept = first.from_kept;
    to_kept = KeepsDisk-trans to to_mid to_new first.to_kept (KeepsDisk-calls to_mid to_new (Ok other) calls);
    from_faults = first.from_faults;
    to_faults = calls.faults ∙ first.to_faults;
    from_reads = first.from_reads;
  }

  CallsBoth-second_failed : {U V E : Type 0} (T : Type 0) (to_mid : DiskState) (value : U) (fault : E)
      → CallsBoth from from_new to to_mid (Ok value) → AreCalls {T = V} to_mid to_new (Err fault)
      → CallsBoth {T = T} from from_new to to_new (Err ToDisk)
  CallsBoth-second_failed T to_mid value fault first calls = record {
    from_kept = first.from_kept;
    to_kept = KeepsDisk-trans to to_mid to_new first.to_kept (KeepsDisk-calls to_mid to_new (Err fault) calls);
    from_faults = first.from_faults;
    to_faults = calls.faults ∙ ap raised first.to_faults;
    from_reads = first.from_reads;
  }

  -- ---- a mirror that only reads

  refused : (fault : MirrorFault) → CallsBoth {T = ℕ} from from_new to to_new (Err fault)
      → (IsObservable to → ReadsOnly to to_new) → IsCause from to fault → Mirrors from from_new to to_new (Err fault)
  refused fault calls reads cause = record {
    calls = calls;
    cause = cause;
    refused = λ observable other. reads observable;
    apart = λ observable none. reads observable;
    durable = λ observable. tt;
    becomes = λ first_observable observable p first second. record {
      rewrites = only_read p.slots (recovered p.slots from.bytes)
          (slots_differing p.slots to.bytes from.bytes) to to_new (Err fault) second.length_is refl (reads observable);
      count = tt;
    };
  }

  -- they are no pair
  pub unjudged : (fault : MirrorFault) → JudgesPair from from_new to to_new (Err fault)
      → Mirrors from from_new to to_new (Err fault)
  unjudged fault judges = refused fault (CallsBoth-failed Parameters ℕ fault judges.calls) judges.to_reads judges.cause

-- ---- a mirror of a pair

module _ (from from_mid from_new to to_mid to_read : DiskState) (p : Parameters)
    (judges : JudgesPair from from_mid to to_mid (Ok p)) where
  -- the second was only read so far
  both_read : (IsObservable to_mid → ReadsOnly to_mid to_read) → IsObservable to → ReadsOnly to to_read
  both_read reads observable = ReadsOnly-trans to to_mid to_read (judges.to_reads observable)
      (reads (judges.calls.to_kept.observable ∙ observable))

  -- they were not compared
  pub uncompared : (fault : MirrorFault) → ComparesSlots p.slots from_mid from_new to_mid to_read (Err fault)
      → Mirrors from from_new to to_read (Err fault)
  uncompared fault compares =
      refused from from_new to to_read fault
      (CallsBoth-failed from from_new to to_read ChangedSlots ℕ fault
      (CallsBoth-then from from_new to to_read from_mid to_mid p (Err fault) judges.calls compares.calls))
      (both_read compares.to_reads)
      (⊎_elim (λ (is : fault ≡ FromDisk). subst (IsCause from to) (sym is) tt)
      (⊎_elim (λ (is : fault ≡ ToDisk). subst (IsCause from to) (sym is)
      (record { params = p; holds = judges.cause.first }))
      (λ (is : fault ≡ NoMemory). subst (IsCause from to) (sym is) (record { params = p; are = judges.cause })))
      compares.faults)

  -- the second is rewritten
  module _ (changes : ChangedSlots) (compares : ComparesSlots p.slots from_mid from_new to_mid to_read (Ok changes))
    where
      abbrev slot_changes : Changes
      slot_changes = changes_of changes.slots.items

      read : IsObservable to → ReadsOnly to to_read
      read = both_read compares.to_reads

      calls : CallsBoth from from_new to to_read (Ok changes)
      calls = CallsBoth-then from from_new to to_read from_mid to_mid p (Ok changes) judges.calls compares.calls

      -- the changes, by the images as they were found
      differ : IsObservable from → IsObservable to
          → AreDifferences (recovered_slot p.slots to.bytes) (recovered_slot p.slots from.bytes) p.slots slot_changes
      differ first_observable observable =
          subst (λ (bytes : List ℕ). AreDifferences (recovered_slot p.slots bytes)
          (recovered_slot p.slots from.bytes) p.slots slot_changes) (judges.to_reads observable).bytes
          (subst (λ (bytes : List ℕ). AreDifferences (recovered_slot p.slots to_mid.bytes)
          (recovered_slot p.slots bytes) p.slots slot_changes) (judges.calls.from_reads first_observable).bytes
          (compares.differ (judges.calls.from_kept.observable ∙ first_observable)
          (judges.calls.to_kept.observable ∙ observable)))

      -- so they make the second what recovery leaves of the first
      target : IsObservable from → IsObservable to
          → with_slots p.slots slot_changes (recovered p.slots to_read.bytes) ≡ recovered p.slots from.bytes
      target first_observable observable =
          let first = judges.cause.first.has_parameters.named first_observable in
          let second = judges.cause.second.named observable in
          ap (λ (bytes : List ℕ). with_slots p.slots slot_changes (recovered p.slots bytes)) (read observable).bytes
          ∙ becomes_first p.slots from.bytes to.bytes first.length_is second.length_is (second.names.header_is
          ∙ sym first.names.header_is) slot_changes compares.rise (differ first_observable observable)

      module _ {T E : Type 0} (to_new : DiskState) (rewritten : Result T E)
          (rewrites : IsObservable to_read
          → RewritesImage p.slots (with_slots p.slots slot_changes (recovered p.slots to_read.bytes))
          slot_changes.count to_read to_new rewritten) where
        becoming : IsObservable from → IsObservable to
            → RewritesImage p.slots (recovered p.slots from.bytes)
            (slots_differing p.slots to.bytes from.bytes) to to_new rewritten
        becoming first_observable observable =
            behind_reads p.slots (recovered p.slots from.bytes) (slots_differing p.slots to.bytes from.bytes) to to_read
            to_new rewritten (read observable)
            (subst (λ (count : ℕ). RewritesImage p.slots (recovered p.slots from.bytes) count to_read to_new rewritten)
            (differ first_observable observable).count_is
            (subst (λ (bytes : List ℕ). RewritesImage p.slots bytes slot_changes.count to_read to_new rewritten)
            (target first_observable observable) (rewrites (calls.to_kept.observable ∙ observable))))

      -- it became the first
      pub mirrored : {T E : Type 0} (to_new : DiskState) (value : T) (count : ℕ) → count ≡ slot_changes.count
          → AreCalls {E = E} to_read to_new (Ok value)
          → (IsObservable to_read → RewritesImage {E = E}
          p.slots (with_slots p.slots slot_changes (recovered p.slots to_read.bytes)) slot_changes.count to_read
          to_new (Ok value)) → Mirrors from from_new to to_new (Ok count)
      mirrored {E = E} to_new value count counted second_calls rewrites = record {
        calls = CallsBoth-second from from_new to to_new to_read changes value count calls second_calls;
        cause = record { params = p; are = judges.cause };
        refused = λ observable. tt;
        apart = λ observable none. absurd (none (record { params = p; are = judges.cause }));
        durable = λ observable. (rewrites (calls.to_kept.observable ∙ observable)).durable;
        becomes = λ first_observable observable q first second.
            subst (λ (named : Parameters). BecomesFirst named.slots from.bytes to to_new (Ok count))
            (sym (one_name to.bytes p q (judges.cause.second.named observable) second)) (record {
              rewrites =
                  rewrites_answered E MirrorFault p.slots (recovered p.slots from.bytes)
                  (slots_differing p.slots to.bytes from.bytes) to to_new value count
                  (becoming to_new (Ok value) rewrites first_observable observable);
              count = counted ∙ (differ first_observable observable).count_is;
            });
      }

      -- the second disk failed
      pub unwritten : {T E : Type 0} (to_new : DiskState) (fault : E) → AreCalls {T = T} to_read to_new (Err fault)
          → (IsObservable to_read → RewritesImage {T = T}
          p.slots (with_slots p.slots slot_changes (recovered p.slots to_read.bytes)) slot_changes.count to_read
          to_new (Err fault)) → Mirrors from from_new to to_new (Err ToDisk)
      unwritten {T = T} to_new fault second_calls rewrites = record {
        calls = CallsBoth-second_failed from from_new to to_new ℕ to_read changes fault calls second_calls;
        cause = record { params = p; holds = judges.cause.first };
        refused = λ observable other. absurd (other refl);
        apart = λ observable none. absurd (none (record { params = p; are = judges.cause }));
        durable = λ observable. tt;
        becomes = λ first_observable observable q first second.
            subst (λ (named : Parameters). BecomesFirst named.slots from.bytes to to_new (Err ToDisk))
            (sym (one_name to.bytes p q (judges.cause.second.named observable) second)) (record {
              rewrites =
                  rewrites_failed T ℕ p.slots (recovered p.slots from.bytes)
                  (slots_differing p.slots to.bytes from.bytes) to to_new fault ToDisk
                  (becoming to_new (Err fault) rewrites first_observable observable);
              count = tt;
            });
      }
