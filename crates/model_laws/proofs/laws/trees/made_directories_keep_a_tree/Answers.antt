use Rattle.store_model.proofs.TreesLemmas.{IsTree-make}
use Rattle.model_laws.proofs.laws.trees.made_directories_keep_a_tree.Goals as goal

pub returns : goal.returns
returns c = IsTree-make
