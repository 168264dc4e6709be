use Rattle.std.proofs.Common.{◌+◌, ◌-◌, ◌^◌, ◌<◌, min, Ok}
use Rattle.store_base.specs.declared.fault.DiskFault.{DiskFault}
use Rattle.disk_model.specs.DiskState.{IsObservable}
use Rattle.gate_journal.specs.Places.{AreCalls, Made, Keeps}
use Rattle.gate_journal.specs.Recovery.{OutsideMarked, AreRedone, marked_count}
use Rattle.gate_journal.proofs.redo.redo_block.Given as goal

abbrev pub invariant-loop-slot : goal.invariant-loop-slot
invariant-loop-slot g l =
    let old = g.D.Disk.state l.fn.disk in
    let new = g.D.Disk.state l.disk in
    record {
      calls : AreCalls {T = Unit {0}} {E = DiskFault} old new (Ok tt);
      keeps : IsObservable old → Keeps (OutsideMarked l.slots l.first (min l.slots (l.first + 4096)) old.bytes) old new;
      redone : IsObservable old → AreRedone l.slots l.first l.slot old.bytes new.bytes;
      made : IsObservable old → Made (marked_count l.first (l.slot - l.first) old.bytes) 0 old new;
      fits : (new.writes < 2 ^ 64) × (new.syncs < 2 ^ 64);
    }
