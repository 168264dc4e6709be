use Rattle.store_model.specs.Parameters.{Parameters}
use Rattle.store_model.specs.Trees.{Tree}
use Rattle.ordered_pairs.specs.PairsState.{IsObservable}
use Rattle.tree_pairs.specs.TreeCalls.{HoldsTree}
use Rattle.dir_tree.proofs.TestLemmas.{IsPartTested, HasWalked}
use Rattle.dir_tree.proofs.moving.outgrows.Given as goal

abbrev pub invariant-loop : goal.invariant-loop
invariant-loop g l = record {
  walked : HasWalked (g.P.OrderedPairs.state l.fn.pairs) (g.P.OrderedPairs.state l.pairs);
  part : IsObservable (g.P.OrderedPairs.state l.fn.pairs) → (t : Tree) (p : Parameters)
      → HoldsTree (g.P.OrderedPairs.state l.fn.pairs) t p → IsPartTested t p l.from l.to l.next l.counter;
  follows : g.P.OrderedPairs.follows l.fn.pairs l.pairs;
}
