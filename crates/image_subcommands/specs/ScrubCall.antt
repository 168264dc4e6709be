-- What `scrub` promises.
use Rattle.std.specs.Prelude.{◌≡◌, ◌⊎◌}
use Rattle.store_model.specs.Parameters.{Parameters}
use Rattle.store_model.specs.Trees.{Tree}
use Rattle.disk_model.specs.DiskState.{DiskState, IsObservable}
use Rattle.disk_model.specs.DiskCalls.{LeavesOnly}
use Rattle.gate_journal.specs.Costs.{opening_syncs, MadeAtMost}
use Rattle.gate_journal.specs.Places.{Made, ReadsOnly}
use Rattle.script_lines.specs.SinkState.{SinkState}
use Rattle.scrub_free.specs.Scrubbing.{ScrubsAs, writes_to_scrub}
use Rattle.scrub_free.specs.ScrubCalls.{ScrubsTo, IsScrubVerdict, IsBeyondScrubbing}
use Rattle.image_check.specs.Standing.{Stands}
use Rattle.image_subcommands.specs.declared.outcome.Outcome.{Outcome}
use Rattle.image_subcommands.specs.declared.status.Status.{Status}
use Rattle.image_subcommands.specs.declared.status.Status.TheVariants as statuses
use Rattle.image_subcommands.specs.Outside.{Outside}
use Rattle.image_subcommands.specs.Reports.{Reports, EndsByVerdict}
use Rattle.image_subcommands.specs.Statuses.{Subcommand as words, IsStatusOf, IsJudged, done_of_verdict}

-- scrubbing leaves the layout of some tree
pub record ScrubsToSome (disk : DiskState) : Type 0 where
  pub tree : Tree
  pub params : Parameters
  pub scrubs : ScrubsTo disk.bytes tree params

-- Scrubbing leaves the layout of the tree. An image that a crash at any moment of the call may leave is one that a
-- crash before it might have left, or scrubs to the same; and so does what the disk reads, after a fault too.
pub record ScrubsTree (t : Tree) (p : Parameters) (status : Status) (old new : DiskState) : Type 0 where
  -- where the call came to its verdict the disk is scrubbed, whether or not the report was printed
  pub scrubbed : IsJudged status → Stands new t p
  pub crash : LeavesOnly old new (λ image. old.crash_images image ⊎ ScrubsAs p.slots old.bytes image)
  pub reads : ScrubsAs p.slots old.bytes new.bytes
  -- it made just the writes and syncs that this takes, and with a fault no more
  pub made : IsJudged status → Made (writes_to_scrub p.slots old.bytes) (opening_syncs p.slots old.bytes) old new
  pub limit : MadeAtMost (writes_to_scrub p.slots old.bytes) (opening_syncs p.slots old.bytes) old new

-- A scrub of an observable disk.
pub record ScrubsDisk (status : Status) (disk disk_new : DiskState) (sink sink_new : SinkState) : Type 0 where
  -- it is clean where scrubbing leaves the layout of a tree, and damaged where it leaves that of none
  pub ends : EndsByVerdict (ScrubsToSome disk) (IsBeyondScrubbing disk) status disk disk_new sink sink_new
  pub scrubs : (t : Tree) (p : Parameters) → ScrubsTo disk.bytes t p → ScrubsTree t p status disk disk_new
  -- where it leaves that of none the disk is only read, also where the report could not be printed
  pub nothing : ((t : Tree) (p : Parameters) → ScrubsTo disk.bytes t p → ⊥) → ReadsOnly disk disk_new

module _ {D R W : Type 0} (disk_of : D → DiskState) (sink_of : W → SinkState) where
  pub record IsScrub (before : Outside D R W) (after : Outcome D R W) : Type 0 where
    -- how it ends
    pub ends : IsStatusOf words.Scrub after.status
    pub done : after.done ≡ done_of_verdict after.status
    pub observed : IsObservable (disk_of before.disk)
        → ScrubsDisk after.status (disk_of before.disk) (disk_of after.disk) (sink_of before.sink) (sink_of after.sink)
    -- what stands then
    pub source : after.source ≡ before.source
    -- it takes no memory itself: where memory ran out while the words were read, nothing was called
    pub no_memory : after.status ≡ statuses.NoMemory → after.disk ≡ before.disk
    pub report : IsJudged after.status
        → Reports (IsScrubVerdict (disk_of before.disk)) after.status (sink_of before.sink) (sink_of after.sink)
    pub silent : (IsJudged after.status → ⊥) → after.sink ≡ before.sink
