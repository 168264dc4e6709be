use Rattle.std.proofs.Common.{length, ◌-◌, ◌≤◌, Ok}
use Rattle.ordered_pairs.specs.PairsState.{IsObservable}
use Rattle.file_blocks.specs.FileCalls.{ReadsFileBytes}
use Rattle.file_blocks.proofs.reading.read_bytes.Given as goal

abbrev pub invariant-loop-bytes : goal.invariant-loop-bytes
invariant-loop-bytes g l = record {
  within : length l.bytes.items ≤ l.count;
  call : ReadsFileBytes l.path l.at (length l.bytes.items) (g.P.OrderedPairs.state l.fn.pairs)
      (g.P.OrderedPairs.state l.pairs) (Ok l.bytes.items);
  hidden : IsObservable (g.P.OrderedPairs.state l.pairs) → IsObservable (g.P.OrderedPairs.state l.fn.pairs);
  follows : g.P.OrderedPairs.follows l.fn.pairs l.pairs;
}

abbrev pub decreases-loop-bytes : goal.decreases-loop-bytes
decreases-loop-bytes g l = l.count - length l.bytes.items
