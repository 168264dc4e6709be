use Rattle.store_model.proofs.TreesLemmasLayouts.{layouts_tell, images_tell}
use Rattle.model_laws.proofs.laws.trees.layouts_tell_trees_apart.Goals as goal

pub returns-clause-layout : goal.returns-clause-layout
returns-clause-layout c = layouts_tell

pub returns-clause-image : goal.returns-clause-image
returns-clause-image c = images_tell
