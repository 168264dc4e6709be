-- What writing a dump leaves of a store and a sink, and how it ends.
use Rattle.std.specs.Prelude.{◌≡◌, ◌⊎◌, false, Option, Some, None, Result, Ok, Err, IfErr, OnOk}
use Rattle.disk_model.specs.DiskState.{DiskState}
use Rattle.disk_model.specs.DiskState as disks
use Rattle.gate_journal.specs.Disks.{KeepsDisk}
use Rattle.gate_journal.specs.Places.{ReadsOnly}
use Rattle.script_lines.specs.SinkState.{SinkState}
use Rattle.dump_streams.specs.declared.taker.TakerFault.{TakerFault}
use Rattle.dump_streams.specs.declared.taker.TakerFault.TheVariants as takers
use Rattle.image_check.specs.declared.fault.ApplyFault.{ApplyFault}
use Rattle.store_core.specs.StoreState.{StoreState}
use Rattle.image_subcommands.specs.declared.status.Status.{Status}
use Rattle.image_subcommands.specs.declared.status.Status.TheVariants as statuses
use Rattle.image_subcommands.specs.Endings.{apply_status}
use Rattle.image_subcommands.specs.Statuses.{disk_faults_by, sink_faults_by}

-- the status of work that ended so
abbrev pub status_so_far : {T : Type 0} → Result T Status → Status
status_so_far (Ok value) = statuses.Done
status_so_far (Err status) = status

-- how the writing of a dump may end before its end
pub data IsDumpFault : Status → Type 0 where
  Sink : IsDumpFault statuses.SinkFault
  Disk : IsDumpFault statuses.DiskFault
  NoMemory : IsDumpFault statuses.NoMemory

-- What writing a part of a dump leaves of any store and sink: the store keeps its tree, the disk is only read, and
-- one call failed at most, which the status tells.
pub record KeepsStore {D T : Type 0} (disk_of : D → DiskState) (old new : StoreState D) (sink sink_new : SinkState)
    (result : Result T Status) : Type 0 where
  pub tree : new.tree ≡ old.tree
  pub params : new.params ≡ old.params
  pub fault : IfErr result IsDumpFault
  pub runs : OnOk result (new.is_stopped ≡ false)
  pub disk_kept : KeepsDisk (disk_of old.disk) (disk_of new.disk)
  pub disk_faults : (disk_of new.disk).faults ≡ disk_faults_by (status_so_far result) (disk_of old.disk).faults
  pub reads : disks.IsObservable (disk_of old.disk) → ReadsOnly (disk_of old.disk) (disk_of new.disk)
  pub sink_observable : sink_new.is_observable ≡ sink.is_observable
  pub sink_faults : sink_new.faults ≡ sink_faults_by (status_so_far result) sink.faults

-- how a line ends the writing that was gathered so
abbrev pub line_ended : Result (Unit {0}) TakerFault → Result (Unit {0}) Status
line_ended (Ok value) = Ok value
line_ended (Err takers.NoMemory) = Err statuses.NoMemory
line_ended (Err takers.Failed) = Err statuses.SinkFault

-- What writing a line leaves of any sink.
pub record KeepsSink {T : Type 0} (old new : SinkState) (result : Result T Status) : Type 0 where
  pub fault : IfErr result (λ status. (status ≡ statuses.SinkFault) ⊎ (status ≡ statuses.NoMemory))
  pub observable : new.is_observable ≡ old.is_observable
  pub faults : new.faults ≡ sink_faults_by (status_so_far result) old.faults

-- how a store that told this fault, or none, ends it
abbrev pub read_ended : Option ApplyFault → Status
read_ended (Some fault) = apply_status fault
read_ended None = statuses.NoMemory
