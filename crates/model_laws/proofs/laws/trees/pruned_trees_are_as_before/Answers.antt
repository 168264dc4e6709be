use Rattle.model_laws.proofs.WithinLemmas.{tree_after-pruned}
use Rattle.model_laws.proofs.laws.trees.pruned_trees_are_as_before.Goals as goal

pub returns : goal.returns
returns c = tree_after-pruned
