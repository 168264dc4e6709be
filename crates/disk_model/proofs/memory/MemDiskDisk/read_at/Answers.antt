use Rattle.std.proofs.Common.{rules, ◌≡◌, length, take, drop}
use Rattle.disk_model.specs.MemDisk.{memory_of}
use Rattle.disk_model.proofs.Recording.{IsRead-after_read, CountsFit}
use Rattle.disk_model.proofs.memory.MemDiskDisk.read_at.Goals as goal

pub returns-clause-read : goal.returns-clause-read
returns-clause-read c =
    let memory = memory_of c.self.inside in
    let fit : CountsFit memory = record { faults = search rules; writes = search rules; syncs = search rules } in
    let read : c.copy_from_slice.new.self ≡ take (length c.copy_from_slice.new.self) (drop c.args.at memory.bytes) =
    search rules in
    rw (← c.self.view_is) (IsRead-after_read memory c.args.at c.copy_from_slice.new.self tt fit read)
