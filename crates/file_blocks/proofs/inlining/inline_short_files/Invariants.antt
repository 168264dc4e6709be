use Rattle.store_model.specs.Parameters.{Parameters}
use Rattle.store_model.specs.Trees.{Tree}
use Rattle.ordered_pairs.specs.PairsState.{IsObservable}
use Rattle.tree_pairs.specs.TreeCalls.{HoldsTree}
use Rattle.file_blocks.proofs.WalkLemmas.{HasWalked, IsPartUpgraded}
use Rattle.file_blocks.proofs.inlining.inline_short_files.Given as goal

abbrev pub invariant-loop : goal.invariant-loop
invariant-loop g l = record {
  walked : HasWalked (g.P.OrderedPairs.state l.fn.pairs) (g.P.OrderedPairs.state l.pairs);
  part : IsObservable (g.P.OrderedPairs.state l.fn.pairs) → (t : Tree) (p : Parameters)
      → HoldsTree (g.P.OrderedPairs.state l.fn.pairs) t p
      → IsPartUpgraded t p l.last l.counter (g.P.OrderedPairs.state l.pairs).pairs;
  follows : g.P.OrderedPairs.follows l.fn.pairs l.pairs;
}
