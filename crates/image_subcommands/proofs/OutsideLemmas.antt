-- Lemmas on what a call leaves of the disk, the source and the sink.
use Rattle.std.proofs.Common.{◌≡◌, refl, sym}
use Rattle.disk_model.specs.DiskState.{DiskState}
use Rattle.gate_journal.specs.Disks.{KeepsDisk}
use Rattle.script_lines.specs.SourceState.{SourceState}
use Rattle.script_lines.specs.SinkState.{SinkState}
use Rattle.image_subcommands.specs.Outside.{KeepsOutside}
use Rattle.image_subcommands.specs.Statuses.{disk_faults_by, source_faults_by, sink_faults_by}
use Rattle.image_subcommands.specs.declared.status.Status.{Status}

-- neither the source nor the sink was called, nor does the status tell of a fault of them
pub kept_around : {status : Status} (old new : DiskState) (source : SourceState) (sink : SinkState) → KeepsDisk old new
    → new.faults ≡ disk_faults_by status old.faults → source_faults_by status source.faults ≡ source.faults
    → sink_faults_by status sink.faults ≡ sink.faults → KeepsOutside status old new source source sink sink
kept_around old new source sink kept count source_well sink_well = record {
  disk_kept = kept;
  source_observable = refl;
  sink_observable = refl;
  disk_faults = count;
  source_faults = sym source_well;
  sink_faults = sym sink_well;
}
