-- The disk, the source and the sink around a call.
use Rattle.std.specs.Prelude.{◌≡◌}
use Rattle.disk_model.specs.DiskState.{DiskState}
use Rattle.gate_journal.specs.Disks.{KeepsDisk}
use Rattle.script_lines.specs.SourceState.{SourceState}
use Rattle.script_lines.specs.SinkState.{SinkState}
use Rattle.image_subcommands.specs.declared.outcome.Outcome.{Outcome}
use Rattle.image_subcommands.specs.declared.status.Status.{Status}
use Rattle.image_subcommands.specs.Statuses.{disk_faults_by, source_faults_by, sink_faults_by}

-- What a call is given.
pub record Outside (D R W : Type 0) : Type 0 where
  pub disk : D
  pub source : R
  pub sink : W

abbrev pub outside_of : {D R W : Type 0} → D → R → W → Outside D R W
outside_of disk source sink = record { disk = disk; source = source; sink = sink }

-- What a call that ended so leaves of the disk, the source and the sink, whatever they are: each tells its bytes
-- where it did, the disk has its size, no count of it fell, and one call failed at most, which the status tells.
pub record KeepsOutside (status : Status) (disk disk_new : DiskState) (source source_new : SourceState)
    (sink sink_new : SinkState) : Type 0 where
  pub disk_kept : KeepsDisk disk disk_new
  pub source_observable : source_new.is_observable ≡ source.is_observable
  pub sink_observable : sink_new.is_observable ≡ sink.is_observable
  pub disk_faults : disk_new.faults ≡ disk_faults_by status disk.faults
  pub source_faults : source_new.faults ≡ source_faults_by status source.faults
  pub sink_faults : sink_new.faults ≡ sink_faults_by status sink.faults

-- nothing was taken from the source or written to the sink, and no work was done
pub record IsIdle {D R W : Type 0} (before : Outside D R W) (after : Outcome D R W) : Type 0 where
  pub done : after.done ≡ 0
  pub source : after.source ≡ before.source
  pub sink : after.sink ≡ before.sink

-- nothing at all was called
pub record CallsNothing {D R W : Type 0} (before : Outside D R W) (after : Outcome D R W) : Type 0 where
  pub idle : IsIdle before after
  pub disk : after.disk ≡ before.disk
