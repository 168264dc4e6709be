use Rattle.std.proofs.Common.{length, ◌-◌, ◌≤◌, take, Ok}
use Rattle.ordered_pairs.specs.PairsState.{IsObservable}
use Rattle.file_blocks.specs.FileCalls.{PutsFileBytes}
use Rattle.file_blocks.proofs.writing.put_bytes.Given as goal

abbrev pub invariant-loop-done : goal.invariant-loop-done
invariant-loop-done g l = record {
  within : l.done ≤ length l.bytes;
  call : PutsFileBytes l.path l.len l.at (take l.done l.bytes) (g.P.OrderedPairs.state l.fn.pairs)
      (g.P.OrderedPairs.state l.pairs) (Ok (tt {0}));
  hidden : IsObservable (g.P.OrderedPairs.state l.pairs) → IsObservable (g.P.OrderedPairs.state l.fn.pairs);
  follows : g.P.OrderedPairs.follows l.fn.pairs l.pairs;
}

abbrev pub decreases-loop-done : goal.decreases-loop-done
decreases-loop-done g l = length l.bytes - l.done
