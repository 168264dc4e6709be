use Rattle.std.proofs.Common.{◌≡◌, ◌++◌, take, drop}
use Rattle.path_keys.specs.Fields.{with_zeros}
use Rattle.path_keys.proofs.names.put_zeros.Given as goal

abbrev pub invariant-loop-byte : goal.invariant-loop-byte
invariant-loop-byte l = l.bytes ≡ with_zeros l.separator (take l.byte-index l.fn.bytes) ++ drop l.byte-index l.fn.bytes
