use Rattle.store_model.proofs.TreesLemmasFits.{IsTree-empty, Fits-empty}
use Rattle.model_laws.proofs.laws.trees.empty_tree_is_a_tree.Goals as goal

pub returns-clause-tree : goal.returns-clause-tree
returns-clause-tree c = IsTree-empty

pub returns-clause-fits : goal.returns-clause-fits
returns-clause-fits c = Fits-empty
