use Rattle.std.proofs.Common.{◌≡◌}
use Rattle.ordered_pairs.specs.PairsState.{IsObservable}
use Rattle.tree_pairs.specs.Blocks.{BlockMap}
use Rattle.dir_tree.specs.SubtreeCalls.{HasPathBlocks}
use Rattle.dir_tree.proofs.TakingLemmas.{IsPartTaken}
use Rattle.dir_tree.proofs.subtree.take_subtree.Given as goal

abbrev pub invariant-loop : goal.invariant-loop
invariant-loop g l = record {
  faults : (g.P.OrderedPairs.state l.pairs).faults ≡ (g.P.OrderedPairs.state l.fn.pairs).faults;
  observable : IsObservable (g.P.OrderedPairs.state l.fn.pairs) → IsObservable (g.P.OrderedPairs.state l.pairs);
  part : IsObservable (g.P.OrderedPairs.state l.fn.pairs) → (blocks : BlockMap)
      → HasPathBlocks blocks (g.P.OrderedPairs.state l.fn.pairs).pairs
      → IsPartTaken l.top blocks l.counter (g.P.OrderedPairs.state l.pairs).pairs;
  follows : g.P.OrderedPairs.follows l.fn.pairs l.pairs;
}
