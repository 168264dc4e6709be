-- What `check` promises.
use Rattle.std.specs.Prelude.{◌≡◌}
use Rattle.disk_model.specs.DiskState.{DiskState, IsObservable}
use Rattle.gate_journal.specs.Places.{ReadsOnly}
use Rattle.image_check.specs.Verdicts.{IsVerdict, IsDamaged}
use Rattle.script_lines.specs.SinkState.{SinkState}
use Rattle.image_subcommands.specs.declared.outcome.Outcome.{Outcome}
use Rattle.image_subcommands.specs.declared.status.Status.{Status}
use Rattle.image_subcommands.specs.declared.status.Status.TheVariants as statuses
use Rattle.image_subcommands.specs.Outside.{Outside}
use Rattle.image_check.specs.Standing.{RepresentsSome}
use Rattle.image_subcommands.specs.Reports.{Reports, EndsByVerdict}
use Rattle.image_subcommands.specs.Statuses.{Subcommand as words, IsStatusOf, IsJudged, done_of_verdict}

-- A check of an observable disk.
pub record ChecksDisk (status : Status) (disk disk_new : DiskState) (sink sink_new : SinkState) : Type 0 where
  -- it is clean where the image represents a tree, and damaged where it represents none
  pub ends : EndsByVerdict (RepresentsSome disk) (IsDamaged disk) status disk disk_new sink sink_new
  pub reads : ReadsOnly disk disk_new

module _ {D R W : Type 0} (disk_of : D → DiskState) (sink_of : W → SinkState) where
  pub record IsCheck (before : Outside D R W) (after : Outcome D R W) : Type 0 where
    -- how it ends
    pub ends : IsStatusOf words.Check after.status
    pub done : after.done ≡ done_of_verdict after.status
    pub observed : IsObservable (disk_of before.disk)
        → ChecksDisk after.status (disk_of before.disk) (disk_of after.disk) (sink_of before.sink) (sink_of after.sink)
    -- what stands then
    pub source : after.source ≡ before.source
    -- it takes no memory itself: where memory ran out while the words were read, nothing was called
    pub no_memory : after.status ≡ statuses.NoMemory → after.disk ≡ before.disk
    pub report : IsJudged after.status
        → Reports (IsVerdict (disk_of before.disk)) after.status (sink_of before.sink) (sink_of after.sink)
    pub silent : (IsJudged after.status → ⊥) → after.sink ≡ before.sink
