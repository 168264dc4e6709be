-- What a mirror ensures, and the calls that it is made of.
use Rattle.std.specs.Prelude.{◌≡◌, ◌≢◌, ◌⊎◌, ℕ, List, [], Result, Ok, Err, OnOk, IfOk, IfErr, MatchResult, slice_get}
use Rattle.std.specs.Prelude.{slice_index_or, Some}
use Rattle.store_model.specs.Parameters.{Parameters}
use Rattle.store_model.specs.Images.{recovered, recovered_slot}
use Rattle.store_base.specs.Counts.{raised}
use Rattle.store_base.specs.SlotsState.{SlotsState}
use Rattle.store_base.specs.SlotsState as slots
use Rattle.disk_model.specs.DiskState.{DiskState, IsObservable, IsDurable}
use Rattle.disk_model.specs.DiskCalls.{LeavesOnly}
use Rattle.gate_journal.specs.Changes.{AreChanges, RecoversToEither}
use Rattle.gate_journal.specs.Costs.{MadeAtMost}
use Rattle.gate_journal.specs.Disks.{KeepsDisk}
use Rattle.gate_journal.specs.Headers.{IsImageWith, HasParameters}
use Rattle.gate_journal.specs.Places.{ReadsOnly, Made}
use Rattle.image_check.specs.Verdicts.{IsNoImage}
use Rattle.table_memory.specs.declared.changed.ChangedSlots.{ChangedSlots}
use Rattle.table_memory.specs.Differences.{AreDifferences}
use Rattle.table_memory.specs.SlotCaches.{changes_of}
use Rattle.mirror_copy.specs.declared.fault.MirrorFault.{MirrorFault}
use Rattle.mirror_copy.specs.declared.fault.MirrorFault.TheVariants.{FromNotImage, FromDamaged, ToNotImage, Unequal}
use Rattle.mirror_copy.specs.declared.fault.MirrorFault.TheVariants.{FromDisk, ToDisk, NoMemory}
use Rattle.mirror_copy.specs.Differing.{slots_differing, rewrite_writes, rewrite_syncs}
use Rattle.mirror_copy.specs.Faults.{from_faults_after, to_faults_after}
use Rattle.mirror_copy.specs.Pairs.{ArePair, ArePairOfSome, IsCause}

-- Calls on two disks, of which the first is only read. Each failed call is counted and answered, and no other is.
pub record CallsBoth {T : Type 0} (from from_new to to_new : DiskState) (result : Result T MirrorFault) : Type 0 where
  pub from_kept : KeepsDisk from from_new
  pub to_kept : KeepsDisk to to_new
  pub from_faults : from_new.faults ≡ from_faults_after from.faults result
  pub to_faults : to_new.faults ≡ to_faults_after to.faults result
  pub from_reads : IsObservable from → ReadsOnly from from_new

-- A disk is made to read the target, by a commit of so many slots after its recovery. Each image that a crash at any
-- moment of it may leave is one that a crash before it might have left, or recovers to what the disk did or to the
-- target. What the disk reads recovers so too, whatever the answer. Ok says that it reads the target, with nothing
-- pending. Just so many writes and syncs are made, and with a fault no more.
pub record RewritesImage {T E : Type 0} (slots : ℕ) (target : List ℕ) (count : ℕ) (old new : DiskState)
    (result : Result T E) : Type 0 where
  pub crash : LeavesOnly old new (λ image. old.crash_images image
      ⊎ RecoversToEither slots (recovered slots old.bytes) target image)
  pub reads : RecoversToEither slots (recovered slots old.bytes) target new.bytes
  pub durable : OnOk result (IsDurable new)
  pub done : OnOk result (new.bytes ≡ target)
  pub made : OnOk result (Made (rewrite_writes slots old.bytes count) (rewrite_syncs slots old.bytes count) old new)
  pub limit : MadeAtMost (rewrite_writes slots old.bytes count) (rewrite_syncs slots old.bytes count) old new

-- The second disk becomes what recovery leaves of the first image. The answer is in how many slots they differed,
-- each as recovery leaves it, and so many are committed.
pub record BecomesFirst (slots : ℕ) (first : List ℕ) (old new : DiskState)
    (result : Result ℕ MirrorFault) : Type 0 where
  pub rewrites : RewritesImage slots (recovered slots first) (slots_differing slots old.bytes first) old new result
  pub count : IfOk result (λ count. count ≡ slots_differing slots old.bytes first)

-- A mirror of the first disk onto the second.
pub record Mirrors (from from_new to to_new : DiskState) (result : Result ℕ MirrorFault) : Type 0 where
  -- the first is only read, whatever is found
  pub calls : CallsBoth from from_new to to_new result
  -- why it is mirrored, or is not
  pub cause : MatchResult result (λ count. ArePairOfSome from to) (IsCause from to)
  -- and where it is not, the second is only read too, unless a call of it failed
  pub refused : IsObservable to → IfErr result (λ fault. fault ≢ ToDisk → ReadsOnly to to_new)
  -- where they are no pair it is only read, also where a call of it failed
  pub apart : IsObservable to → (ArePairOfSome from to → ⊥) → ReadsOnly to to_new
  -- where it was mirrored nothing is pending on it
  pub durable : IsObservable to → OnOk result (IsDurable to_new)
  -- on images with the same parameters the second becomes the first
  pub becomes : IsObservable from → IsObservable to → (p : Parameters) → IsImageWith from.bytes p
      → IsImageWith to.bytes p → BecomesFirst p.slots from.bytes to to_new result

-- ---- the calls that it is made of

-- What the second disk holds, where the first has these parameters.
abbrev pub IsOfSecond : Parameters → DiskState → Result Parameters MirrorFault → Type 0
IsOfSecond p disk (Ok q) = (q ≡ p) × HasParameters disk p
IsOfSecond p disk (Err FromNotImage) = ⊥
IsOfSecond p disk (Err FromDamaged) = ⊥
IsOfSecond p disk (Err ToNotImage) = IsNoImage disk
IsOfSecond p disk (Err (Unequal first q)) = (first ≡ p) × HasParameters disk q × (p ≢ q)
IsOfSecond p disk (Err FromDisk) = ⊥
IsOfSecond p disk (Err ToDisk) = Unit {0}
IsOfSecond p disk (Err NoMemory) = ⊥

-- The second disk is judged beside parameters, and only read.
pub record JudgesSecond (p : Parameters) (old new : DiskState) (result : Result Parameters MirrorFault) : Type 0 where
  pub kept : KeepsDisk old new
  pub faults : new.faults ≡ to_faults_after old.faults result
  pub reads : IsObservable old → ReadsOnly old new
  pub found : IsOfSecond p old result

-- Two disks are judged, and only read: the parameters that both have, or why they are no pair.
pub record JudgesPair (from from_new to to_new : DiskState) (result : Result Parameters MirrorFault) : Type 0 where
  pub calls : CallsBoth from from_new to to_new result
  pub to_reads : IsObservable to → ReadsOnly to to_new
  pub cause : MatchResult result (ArePair from to) (IsCause from to)
  -- it takes no memory
  pub memory : result ≢ Err NoMemory

-- The slots of two images are compared, each as recovery leaves it, and the disks are only read: those of the first
-- that differ from the second's.
pub record ComparesSlots (slots : ℕ) (from from_new to to_new : DiskState)
    (result : Result ChangedSlots MirrorFault) : Type 0 where
  pub calls : CallsBoth from from_new to to_new result
  pub to_reads : IsObservable to → ReadsOnly to to_new
  -- no other answer than these
  pub faults : IfErr result (λ fault. (fault ≡ FromDisk) ⊎ (fault ≡ ToDisk) ⊎ (fault ≡ NoMemory))
  pub rise : IfOk result (λ found. AreChanges slots (changes_of found.slots.items))
  pub differ : IsObservable from → IsObservable to
      → IfOk result (λ found. AreDifferences (recovered_slot slots to.bytes) (recovered_slot slots from.bytes) slots
      (changes_of found.slots.items))

-- the slots tell their bytes
abbrev pub AreObservable : SlotsState → Type 0
AreObservable state = slots.IsObservable state

-- the bytes of slot i
abbrev pub slot_of : List (List ℕ) → ℕ → List ℕ
slot_of all i = slice_index_or all i []

-- how a read of a slot ends: with the count of faults as it was; by this fault of the disk below, with one more; or
-- for want of memory, with the count as it was
abbrev pub EndsGet : {T : Type 0} → SlotsState → SlotsState → MirrorFault → Result T MirrorFault → Type 0
EndsGet old new failed (Ok value) = new.faults ≡ old.faults
EndsGet old new failed (Err fault) = ((fault ≡ failed) × (new.faults ≡ raised old.faults))
    ⊎ ((fault ≡ NoMemory) × (new.faults ≡ old.faults))

-- slots were only read
pub record AreReadSlots (old new : SlotsState) : Type 0 where
  pub count : new.count ≡ old.count
  pub observable : new.is_observable ≡ old.is_observable
  pub takes_none : new.takes_none ≡ old.takes_none
  pub slots : AreObservable old → new.slots ≡ old.slots

-- A slot is read into a buffer. A fault of the disk below is answered as this one.
pub record GetsOrFails {T : Type 0} (old new : SlotsState) (at : ℕ) (buffer : List ℕ) (failed : MirrorFault)
    (result : Result T MirrorFault) : Type 0 where
  pub calls : AreReadSlots old new
  pub ends : EndsGet old new failed result
  pub got : AreObservable old → OnOk result (slice_get old.slots at ≡ Some buffer)

-- The slots of two tables are compared, and only read: those of the first that differ from the second's.
pub record FindsDifferences (from from_new to to_new : SlotsState)
    (result : Result ChangedSlots MirrorFault) : Type 0 where
  pub from_calls : AreReadSlots from from_new
  pub to_calls : AreReadSlots to to_new
  pub from_faults : from_new.faults ≡ from_faults_after from.faults result
  pub to_faults : to_new.faults ≡ to_faults_after to.faults result
  -- no other answer than these
  pub faults : IfErr result (λ fault. (fault ≡ FromDisk) ⊎ (fault ≡ ToDisk) ⊎ (fault ≡ NoMemory))
  pub rise : IfOk result (λ found. AreChanges from.count (changes_of found.slots.items))
  pub differ : AreObservable from → AreObservable to
      → IfOk result (λ found. AreDifferences (slot_of to.slots)
      (slot_of from.slots) from.count (changes_of found.slots.items))
