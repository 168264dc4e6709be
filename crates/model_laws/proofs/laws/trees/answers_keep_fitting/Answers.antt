use Rattle.store_model.proofs.TreesLemmasFits.{Fits-answer, Fits-tree_after}
use Rattle.model_laws.proofs.laws.trees.answers_keep_fitting.Goals as goal

pub returns-clause-line : goal.returns-clause-line
returns-clause-line c = Fits-answer

pub returns-clause-lines : goal.returns-clause-lines
returns-clause-lines c = Fits-tree_after
