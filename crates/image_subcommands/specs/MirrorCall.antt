-- What a mirror promises.
use Rattle.std.specs.Prelude.{◌≡◌, ◌⊎◌, ℕ, List, ◌++◌, codes, Result, Ok, Err}
use Rattle.std.specs.Fmt.{decimal}
use Rattle.store_model.specs.Commands.{line}
use Rattle.store_model.specs.Parameters.{Parameters}
use Rattle.store_model.specs.Images.{recovered}
use Rattle.store_base.specs.Counts.{Rose}
use Rattle.disk_model.specs.DiskState.{DiskState, IsObservable, IsDurable}
use Rattle.disk_model.specs.DiskCalls.{LeavesOnly}
use Rattle.gate_journal.specs.Changes.{RecoversToEither}
use Rattle.gate_journal.specs.Costs.{MadeAtMost}
use Rattle.gate_journal.specs.Disks.{KeepsDisk}
use Rattle.gate_journal.specs.Headers.{IsImageWith}
use Rattle.gate_journal.specs.Places.{Made, ReadsOnly}
use Rattle.image_check.specs.Verdicts.{IsNoImage, IsDamaged}
use Rattle.script_lines.specs.SinkState.{SinkState, AppendsPrefix}
use Rattle.script_lines.specs.SinkState as sinks
use Rattle.mirror_copy.specs.Differing.{slots_differing, rewrite_writes, rewrite_syncs}
use Rattle.mirror_copy.specs.Pairs.{HoldsSome, ArePairOfSome, AreUnequalOfSome, LacksSecond}
use Rattle.mirror_copy.specs.declared.fault.MirrorFault.{MirrorFault}
use Rattle.image_subcommands.specs.declared.mirror.PairOutcome.{PairOutcome}
use Rattle.image_subcommands.specs.declared.status.Status.{Status}
use Rattle.image_subcommands.specs.declared.status.Status.TheVariants as statuses
use Rattle.image_subcommands.specs.Endings.{mirror_status}
use Rattle.image_subcommands.specs.Statuses.{Subcommand as words, IsStatusOf, IsMirrored, SparesSecond, ComesExactly}
use Rattle.image_subcommands.specs.Statuses.{done_of_mirror, disk_faults_by, sink_faults_by}

-- the line that a mirror prints, by the number of slots that differed
unfoldable pub mirror_text : ℕ → List ℕ
mirror_text count = line (codes "mirror " ++ decimal count)

-- What a mirror is given.
pub record OutsidePair (A B W : Type 0) : Type 0 where
  pub from : A
  pub to : B
  pub sink : W

abbrev pub pair_of : {A B W : Type 0} → A → B → W → OutsidePair A B W
pair_of from to sink = record { from = from; to = to; sink = sink }

-- ---- what is printed

-- The line of a mirror was printed, or where the sink failed a front of it.
pub record PrintsMirror (count : ℕ) (status : Status) (sink sink_new : SinkState) : Type 0 where
  pub whole : sinks.IsObservable sink → status ≡ statuses.Done → sink_new.written ≡ sink.written ++ mirror_text count
  pub in_part : sinks.IsObservable sink → status ≡ statuses.SinkFault
      → AppendsPrefix sink.written sink_new.written (mirror_text count)

-- that of some number of slots
pub record PrintsSome (status : Status) (sink sink_new : SinkState) : Type 0 where
  pub count : ℕ
  pub prints : PrintsMirror count status sink sink_new

-- What is printed of a mirror that ended so: its line, or a front of it, or in place of a fault nothing.
pub record PrintsLine (count : ℕ) (old new : SinkState) (status : Status) : Type 0 where
  pub observable : new.is_observable ≡ old.is_observable
  pub faults : new.faults ≡ sink_faults_by status old.faults
  pub status_is : (status ≡ statuses.SinkFault) ⊎ (status ≡ statuses.Done)
  pub prints : PrintsMirror count status old new

-- Nothing was printed, and the call ends by a fault that came in place of a mirror.
pub record PrintsNone {W : Type 0} (fault : MirrorFault) (old new : W) (status : Status) : Type 0 where
  pub status_is : status ≡ mirror_status fault
  pub same : new ≡ old

abbrev pub PrintsCount : {W : Type 0} → (W → SinkState) → Result ℕ MirrorFault → W → W → Status → Type 0
PrintsCount sink_of (Ok count) old new status = PrintsLine count (sink_of old) (sink_of new) status
PrintsCount sink_of (Err fault) old new status = PrintsNone fault old new status

-- ---- how the call ends

-- there is no first image; or the first holds a tree, and there is no second image
abbrev pub LacksImage : DiskState → DiskState → Type 0
LacksImage from to = IsNoImage from ⊎ LacksSecond from to

-- no call of the two disks and of the sink failed
pub record NothingFails (from from_new to to_new : DiskState) (sink sink_new : SinkState) : Type 0 where
  pub from_calls : Rose from.faults from_new.faults → ⊥
  pub to_calls : Rose to.faults to_new.faults → ⊥
  pub sink_calls : Rose sink.faults sink_new.faults → ⊥

-- The call ends by what an observable first disk holds alone, unless a disk failed before.
pub record EndsByFirst (status : Status) (from : DiskState) : Type 0 where
  pub no_image : IsNoImage from → (status ≡ statuses.NotImage) ⊎ (status ≡ statuses.DiskFault)
  pub damaged : ComesExactly statuses.Damaged (IsDamaged from) (λ status. status ≡ statuses.DiskFault) status

-- The call ends by what two observable disks hold, unless a disk failed before: a fault of the sink and want of
-- memory come only for a pair.
pub record EndsByPair (status : Status) (from from_new to to_new : DiskState) (sink sink_new : SinkState) : Type 0 where
  pub not_image : ComesExactly statuses.NotImage (LacksImage from to) (λ status. status ≡ statuses.DiskFault) status
  pub unequal : ComesExactly statuses.Unequal (AreUnequalOfSome from to) (λ status. status ≡ statuses.DiskFault) status
  pub mirrored : IsMirrored status → ArePairOfSome from to
  pub no_memory : status ≡ statuses.NoMemory → ArePairOfSome from to
  -- it is done where they are a pair, no call failed and memory was there
  pub complete : ArePairOfSome from to → NothingFails from from_new to to_new sink sink_new
      → (status ≡ statuses.Done) ⊎ (status ≡ statuses.NoMemory)

-- The call makes the second image the first, each under the same parameters. Each image that a crash at any moment of
-- it may leave is one that a crash before it might have left, or recovers to what the second did or to what the first
-- does; and so does what the disk reads, however it ended. It makes just the writes and syncs that this takes, and
-- with a fault no more.
pub record MirrorsDisk (p : Parameters) (first : List ℕ) (status : Status) (to to_new : DiskState)
    (sink sink_new : SinkState) : Type 0 where
  pub bytes : IsMirrored status → to_new.bytes ≡ recovered p.slots first
  pub durable : IsMirrored status → IsDurable to_new
  pub crash : LeavesOnly to to_new (λ image. to.crash_images image
      ⊎ RecoversToEither p.slots (recovered p.slots to.bytes) (recovered p.slots first) image)
  pub reads : RecoversToEither p.slots (recovered p.slots to.bytes) (recovered p.slots first) to_new.bytes
  pub made : IsMirrored status → Made (rewrite_writes p.slots to.bytes (slots_differing p.slots to.bytes first))
      (rewrite_syncs p.slots to.bytes (slots_differing p.slots to.bytes first)) to to_new
  pub limit : MadeAtMost (rewrite_writes p.slots to.bytes (slots_differing p.slots to.bytes first))
      (rewrite_syncs p.slots to.bytes (slots_differing p.slots to.bytes first)) to to_new
  -- the number that is printed is that of the slots that differed, each as recovery leaves it
  pub prints : IsMirrored status → PrintsMirror (slots_differing p.slots to.bytes first) status sink sink_new

-- No call of the second disk failed. Where one of the first did, the second was only read.
pub record FailsFirst (status : Status) (from from_new to to_new : DiskState) : Type 0 where
  pub from_faults : from_new.faults ≡ disk_faults_by status from.faults
  pub to_faults : to_new.faults ≡ to.faults
  pub spared : status ≡ statuses.DiskFault → IsObservable to → ReadsOnly to to_new

-- No call of the first disk failed. Where one of the second did, the first holds a tree.
pub record FailsSecond (status : Status) (from from_new to to_new : DiskState) : Type 0 where
  pub from_faults : from_new.faults ≡ from.faults
  pub to_faults : to_new.faults ≡ disk_faults_by status to.faults
  pub holds : status ≡ statuses.DiskFault → HoldsSome from

-- A call that ended by the fault of a disk had it of one of the two, and any other of none.
abbrev pub FailsOne : Status → DiskState → DiskState → DiskState → DiskState → Type 0
FailsOne status from from_new to to_new = FailsFirst status from from_new to to_new
    ⊎ FailsSecond status from from_new to to_new

module _ {A B W : Type 0} (from_of : A → DiskState) (to_of : B → DiskState) (sink_of : W → SinkState) where
  pub record IsMirror (before : OutsidePair A B W) (after : PairOutcome A B W) : Type 0 where
    -- how it ends
    pub ends : IsStatusOf words.Mirror after.status
    pub done : after.done ≡ done_of_mirror after.status
    pub judged_first : IsObservable (from_of before.from) → EndsByFirst after.status (from_of before.from)
    pub judged : IsObservable (from_of before.from) → IsObservable (to_of before.to)
        → EndsByPair after.status (from_of before.from) (from_of after.from) (to_of before.to) (to_of after.to)
        (sink_of before.sink) (sink_of after.sink)
    -- what stands then of any disks and sink
    pub from_kept : KeepsDisk (from_of before.from) (from_of after.from)
    pub to_kept : KeepsDisk (to_of before.to) (to_of after.to)
    pub disk_faults : FailsOne after.status (from_of before.from) (from_of after.from)
        (to_of before.to) (to_of after.to)
    pub sink_observable : (sink_of after.sink).is_observable ≡ (sink_of before.sink).is_observable
    pub sink_faults : (sink_of after.sink).faults ≡ sink_faults_by after.status (sink_of before.sink).faults
    -- the first disk is only read, and the second too where the call was refused or memory was wanting, and where
    -- they are no pair
    pub from_reads : IsObservable (from_of before.from) → ReadsOnly (from_of before.from) (from_of after.from)
    pub refused : IsObservable (to_of before.to) → SparesSecond after.status
        → ReadsOnly (to_of before.to) (to_of after.to)
    pub apart : IsObservable (to_of before.to) → (ArePairOfSome (from_of before.from) (to_of before.to) → ⊥)
        → ReadsOnly (to_of before.to) (to_of after.to)
    -- the second becomes the first
    pub mirrors : IsObservable (from_of before.from) → IsObservable (to_of before.to) → (p : Parameters)
        → IsImageWith (from_of before.from).bytes p → IsImageWith (to_of before.to).bytes p
        → MirrorsDisk p (from_of before.from).bytes after.status (to_of before.to) (to_of after.to)
        (sink_of before.sink) (sink_of after.sink)
    -- what is printed
    pub prints : IsMirrored after.status → PrintsSome after.status (sink_of before.sink) (sink_of after.sink)
    pub silent : (IsMirrored after.status → ⊥) → after.sink ≡ before.sink
