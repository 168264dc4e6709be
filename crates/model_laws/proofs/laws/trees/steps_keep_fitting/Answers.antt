use Rattle.store_model.proofs.TreesLemmasFits.{Fits-step}
use Rattle.model_laws.proofs.laws.trees.steps_keep_fitting.Goals as goal

pub returns : goal.returns
returns c = Fits-step
