use Rattle.std.proofs.Common.{◌≡◌, drop}
use Rattle.std.specs.List.{find}
use Rattle.host_folders.specs.Memory.{is_file_at}
use Rattle.host_folders.proofs.memory.MemFolder.place_of_file.Given as goal

-- none of the first entries is the file
abbrev pub invariant-loop-place : goal.invariant-loop-place
invariant-loop-place l = find (is_file_at l.path) (drop l.place l.entry-items) ≡ find (is_file_at l.path) l.entry-items
