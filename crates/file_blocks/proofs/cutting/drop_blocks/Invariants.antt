use Rattle.std.proofs.Common.{length, ◌-◌, ◌*◌, ◌≤◌, Ok}
use Rattle.store_model.specs.Pairs.{file_block}
use Rattle.ordered_pairs.specs.PairsState.{IsObservable}
use Rattle.file_blocks.specs.FileCalls.{CutsBytes}
use Rattle.file_blocks.proofs.cutting.drop_blocks.Given as goal

abbrev pub invariant-loop-left : goal.invariant-loop-left
invariant-loop-left g l = record {
  kept : l.kept ≤ l.left;
  within : l.left ≤ l.blocks;
  call : CutsBytes l.path (file_block * l.blocks) (file_block * l.left) (g.P.OrderedPairs.state l.fn.pairs)
      (g.P.OrderedPairs.state l.pairs) (Ok (tt {0}));
  fewer : IsObservable (g.P.OrderedPairs.state l.fn.pairs)
      → length (g.P.OrderedPairs.state l.pairs).pairs ≤ length (g.P.OrderedPairs.state l.fn.pairs).pairs;
  hidden : IsObservable (g.P.OrderedPairs.state l.pairs) → IsObservable (g.P.OrderedPairs.state l.fn.pairs);
  follows : g.P.OrderedPairs.follows l.fn.pairs l.pairs;
}

abbrev pub decreases-loop-left : goal.decreases-loop-left
decreases-loop-left g l = l.left - l.kept
