use Rattle.std.proofs.Common.{◌≡◌, ◌+◌, ◌*◌, drop}
use Rattle.seeded_draw.proofs.Digits.{zero_digits}
use Rattle.seeded_draw.proofs.sha.leading_zero_digits.Given as goal

abbrev pub invariant-loop-byte : goal.invariant-loop-byte
invariant-loop-byte l = record {
  two_each : l.digits ≡ 2 * l.byte-index;
  rest : zero_digits l.bytes ≡ l.digits + zero_digits (drop l.byte-index l.bytes);
}
