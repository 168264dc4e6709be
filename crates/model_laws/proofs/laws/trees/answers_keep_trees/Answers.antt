use Rattle.store_model.proofs.TreesLemmasSteps.{IsTree-answer, IsTree-tree_after}
use Rattle.model_laws.proofs.laws.trees.answers_keep_trees.Goals as goal

pub returns-clause-line : goal.returns-clause-line
returns-clause-line c = IsTree-answer

pub returns-clause-lines : goal.returns-clause-lines
returns-clause-lines c = IsTree-tree_after
