use Rattle.std.proofs.Common.{◌≡◌, ℕ, ◌*◌, ◌<◌, length, slice_index}
use Rattle.gate_journal.proofs.redo.is_zero.Given as goal

abbrev pub invariant-loop-block : goal.invariant-loop-block
invariant-loop-block l =
    (place : ℕ) → place < 4096 * l.block → place < length l.bytes → slice_index l.bytes place ≡ 0
