-- A disk in memory, from its fields.
use Rattle.std.specs.Prelude.{vec_capacity}
use mathlib.Core.List.{reverse}
use Rattle.disk_model.specs.declared.memory.MemDisk.TheInside.{Inside}
use Rattle.disk_model.specs.Memory.{Memory}
use Rattle.disk_model.specs.Record.{IsConsistent}

-- what clauses see of it: its record is kept with the newest call last
abbrev pub memory_of : Inside → Memory
memory_of disk = record {
  bytes = disk.bytes.items;
  synced = disk.synced.items;
  calls = reverse disk.calls.items;
  replaced = disk.replaced.items;
  room = disk.room;
  faults = disk.faults;
  writes = disk.writes;
  syncs = disk.syncs;
  fetched = disk.fetched;
}

-- its parts agree, and its vectors have memory for all that its room allows
abbrev pub IsConsistentInside : Inside → Type 0
IsConsistentInside disk = IsConsistent (memory_of disk) (vec_capacity disk.calls) (vec_capacity disk.replaced)
