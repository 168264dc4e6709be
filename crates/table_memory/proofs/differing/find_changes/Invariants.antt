use Rattle.std.proofs.Common.{length}
use Rattle.table_memory.specs.SlotCaches.{IsSlotCacheOf}
use Rattle.table_memory.proofs.ScanLemmas.{IsScanning}
use Rattle.table_memory.proofs.differing.find_changes.Given as goal

-- the slots that were found so far
abbrev pub invariant-loop-at : goal.invariant-loop-at
invariant-loop-at g l = record {
  scanning : IsScanning l.slots l.fn.written.entries (g.D.Disk.state l.fn.disk)
      (g.D.Disk.state l.disk) l.changed.items l.written.entries;
  cached : IsSlotCacheOf l.slots (g.D.Disk.state l.disk) l.cache;
}

abbrev pub decreases-loop-at : goal.decreases-loop-at
decreases-loop-at g l = length l.written.entries
