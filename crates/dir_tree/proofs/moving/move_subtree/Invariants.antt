use Rattle.std.proofs.Common.{◌≡◌, None, IsTrue}
use Rattle.store_model.specs.Paths.{is_path}
use Rattle.store_model.specs.Parameters.{Parameters}
use Rattle.store_model.specs.Trees.{Tree}
use Rattle.store_model.specs.Commands.Command.{Rename}
use Rattle.store_model.specs.Steps.{refusal_of}
use Rattle.ordered_pairs.specs.PairsState.{IsObservable}
use Rattle.tree_pairs.specs.TreeCalls.{HoldsTree}
use Rattle.dir_tree.proofs.PartLemmas.{IsPartMoved}
use Rattle.dir_tree.proofs.moving.move_subtree.Given as goal

abbrev pub invariant-loop : goal.invariant-loop
invariant-loop g l = record {
  faults : (g.P.OrderedPairs.state l.pairs).faults ≡ (g.P.OrderedPairs.state l.fn.pairs).faults;
  observable : IsObservable (g.P.OrderedPairs.state l.fn.pairs) → IsObservable (g.P.OrderedPairs.state l.pairs);
  part : IsObservable (g.P.OrderedPairs.state l.fn.pairs) → IsTrue (is_path l.to) → (t : Tree) (p : Parameters)
      → HoldsTree (g.P.OrderedPairs.state l.fn.pairs) t p → refusal_of t (Rename l.from l.to) ≡ None
      → IsPartMoved t p l.from l.to l.counter (g.P.OrderedPairs.state l.pairs).pairs;
  follows : g.P.OrderedPairs.follows l.fn.pairs l.pairs;
}
