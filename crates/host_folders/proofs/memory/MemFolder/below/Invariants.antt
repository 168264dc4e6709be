use Rattle.std.proofs.Common.{◌≡◌, take}
use Rattle.host_folders.specs.Memory.{told_of}
use Rattle.host_folders.proofs.memory.MemFolder.below.Given as goal

abbrev pub invariant-loop-entry : goal.invariant-loop-entry
invariant-loop-entry l = l.found.items ≡ told_of (take l.entry-index l.entry-items) l.path
