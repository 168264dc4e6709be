use Rattle.store_model.proofs.TreesLemmasSteps.{IsTree-step}
use Rattle.model_laws.proofs.laws.trees.steps_keep_trees.Goals as goal

pub returns : goal.returns
returns c = IsTree-step
