use Rattle.std.proofs.Common.{ℕ, ◌<◌}
use Rattle.std.specs.List.{slice_get}
use Rattle.pair_stream.specs.Starts.{IsBelow}
use Rattle.pair_stream.proofs.starts.count_below.Given as goal

abbrev pub invariant-loop-at : goal.invariant-loop-at
invariant-loop-at l = (i : ℕ) → i < l.at → IsBelow l.key (slice_get l.page.cells i)
