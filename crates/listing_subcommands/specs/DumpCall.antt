-- What `dump` promises.
use Rattle.std.specs.Prelude.{◌≡◌, ◌⊎◌, ◌++◌}
use Rattle.store_model.specs.Parameters.{Parameters}
use Rattle.store_model.specs.Trees.{Tree}
use Rattle.store_model.specs.Images.{Represents}
use Rattle.dump_streams.specs.Dumps.{dump_text}
use Rattle.store_base.specs.Counts.{Rose}
use Rattle.disk_model.specs.DiskState.{DiskState}
use Rattle.disk_model.specs.DiskCalls.{LeavesOnly}
use Rattle.gate_journal.specs.Costs.{opening_writes, opening_syncs, MadeAtMost}
use Rattle.gate_journal.specs.Disks.{IsUnwritten}
use Rattle.gate_journal.specs.Phases.{HasEmptyJournal}
use Rattle.gate_journal.specs.Places.{Made}
use Rattle.script_lines.specs.SinkState.{SinkState, AppendsPrefix}
use Rattle.script_lines.specs.SinkState as sinks
use Rattle.image_check.specs.Standing.{Stands}
use Rattle.store_core.specs.StoreCalls.{LeavesImage}
use Rattle.image_subcommands.specs.declared.outcome.Outcome.{Outcome}
use Rattle.image_subcommands.specs.declared.status.Status.{Status}
use Rattle.image_subcommands.specs.declared.status.Status.TheVariants as statuses
use Rattle.image_subcommands.specs.Outside.{Outside}
use Rattle.image_subcommands.specs.Statuses.{Subcommand as words, done_of_work}
use Rattle.image_work.specs.Works.{Works}

-- the whole tree was dumped, or as much of it as the sink took
abbrev pub IsDumped : Status → Type 0
IsDumped status = (status ≡ statuses.Done) ⊎ (status ≡ statuses.SinkFault)

-- The dump of the tree is put out, or a front of it where the call ended before.
pub record PutsDump (t : Tree) (status : Status) (old new : SinkState) : Type 0 where
  pub whole : status ≡ statuses.Done → new.written ≡ old.written ++ dump_text t
  pub in_part : AppendsPrefix old.written new.written (dump_text t)

-- A dump of an image that represents the tree, which changes nothing but that the image is opened.
pub record DumpsTree (t : Tree) (p : Parameters) (status : Status) (old new : DiskState)
    (sink sink_new : SinkState) : Type 0 where
  pub put : sinks.IsObservable sink → PutsDump t status sink sink_new
  -- the disk reads the layout of the tree, and nothing is pending
  pub stands : IsDumped status → Stands new t p
  pub no_memory : status ≡ statuses.NoMemory → Stands new t p ⊎ LeavesImage old new
  -- an image that a crash at any moment of the call may leave is one that a crash before it might have left, or
  -- represents the tree; and the disk reads such an image, after a fault too
  pub crash : LeavesOnly old new (λ image. old.crash_images image ⊎ Represents image t p)
  pub reads : Represents new.bytes t p
  -- just the writes and syncs of opening the image were made, and with a fault no more
  pub made : IsDumped status → Made (opening_writes p.slots old.bytes) (opening_syncs p.slots old.bytes) old new
  pub limit : MadeAtMost (opening_writes p.slots old.bytes) (opening_syncs p.slots old.bytes) old new
  pub quiet : HasEmptyJournal p.slots old.bytes → (status ≡ statuses.DiskFault → ⊥) → IsUnwritten old new
  -- it is done where no call failed and memory was there
  pub complete : (Rose old.faults new.faults → ⊥) → (Rose sink.faults sink_new.faults → ⊥)
      → (status ≡ statuses.Done) ⊎ (status ≡ statuses.NoMemory)

-- What a dump leaves, whatever the disk holds.
pub record KeepsDump {D R W : Type 0} (before : Outside D R W) (after : Outcome D R W) : Type 0 where
  pub done : after.done ≡ done_of_work after.status
  pub source : after.source ≡ before.source

module _ {D R W : Type 0} (disk_of : D → DiskState) (sink_of : W → SinkState) where
  abbrev pub DumpsAt : Tree → Parameters → Outside D R W → Outcome D R W → Type 0
  DumpsAt t p before after =
      DumpsTree t p after.status (disk_of before.disk) (disk_of after.disk) (sink_of before.sink) (sink_of after.sink)

  -- the image is opened, and its tree put out
  abbrev pub IsDump : Outside D R W → Outcome D R W → Type 0
  IsDump before after = Works disk_of words.Dump KeepsDump DumpsAt before after
