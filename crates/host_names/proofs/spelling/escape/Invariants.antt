use Rattle.std.proofs.Common.{◌≡◌, ◌≤◌, length, take}
use Rattle.host_names.specs.HostNames.{escaped}
use Rattle.host_names.proofs.spelling.escape.Given as goal

abbrev pub invariant-loop-byte : goal.invariant-loop-byte
invariant-loop-byte l = record {
  spelled : l.into.items ≡ escaped (take l.byte-index l.name);
  fits : length l.into.items ≤ 119;
}
