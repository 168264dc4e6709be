-- What calls keep of every disk, one after another.
use Rattle.std.proofs.Common.{◌∙◌, Result, arith}
use Rattle.disk_model.specs.DiskState.{DiskState}
use Rattle.gate_journal.specs.Places.{AreCalls}
use Rattle.gate_journal.specs.Disks.{KeepsDisk}

pub keeps_then : (old mid new : DiskState) → KeepsDisk old mid → KeepsDisk mid new → KeepsDisk old new
keeps_then old mid new before then = record {
  size = then.size ∙ before.size;
  observable = then.observable ∙ before.observable;
  faults = omega (arith, before.faults, then.faults);
  writes = omega (arith, before.writes, then.writes);
  syncs = omega (arith, before.syncs, then.syncs);
}

pub keeps_calls : {T E : Type 0} (old new : DiskState) (result : Result T E)
    → AreCalls old new result → KeepsDisk old new
keeps_calls old new result calls = record {
  size = calls.size;
  observable = calls.observable;
  faults = calls.rise;
  writes = calls.writes;
  syncs = calls.syncs;
}
