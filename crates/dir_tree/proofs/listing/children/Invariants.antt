use Rattle.std.proofs.Common.{◌≡◌, true}
use Rattle.store_model.specs.Parameters.{Parameters}
use Rattle.store_model.specs.Trees.{Tree, is_directory}
use Rattle.ordered_pairs.specs.PairsState.{IsObservable}
use Rattle.tree_pairs.specs.TreeCalls.{HoldsTree, KeepsPairs}
use Rattle.dir_tree.proofs.ListingLemmas.{IsPartListed}
use Rattle.dir_tree.proofs.listing.children.Given as goal

abbrev pub invariant-loop : goal.invariant-loop
invariant-loop g l = record {
  faults : (g.P.OrderedPairs.state l.pairs).faults ≡ (g.P.OrderedPairs.state l.fn.pairs).faults;
  keeps : KeepsPairs (g.P.OrderedPairs.state l.fn.pairs) (g.P.OrderedPairs.state l.pairs);
  part : IsObservable (g.P.OrderedPairs.state l.fn.pairs) → (t : Tree) (p : Parameters)
      → HoldsTree (g.P.OrderedPairs.state l.fn.pairs) t p → is_directory t l.path ≡ true
      → IsPartListed t l.path l.from l.counter l.entries;
  follows : g.P.OrderedPairs.follows l.fn.pairs l.pairs;
}
