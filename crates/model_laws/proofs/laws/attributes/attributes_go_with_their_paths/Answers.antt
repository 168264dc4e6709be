use Rattle.model_laws.proofs.AttributesLemmas.{attributes_at-remove_step, attributes_at-prune_step}
use Rattle.model_laws.proofs.AttributesLemmas.{attributes_at-rename_step}
use Rattle.model_laws.proofs.laws.attributes.attributes_go_with_their_paths.Goals as goal

pub returns-clause-rename : goal.returns-clause-rename
returns-clause-rename c = attributes_at-rename_step

pub returns-clause-remove : goal.returns-clause-remove
returns-clause-remove c = attributes_at-remove_step

pub returns-clause-prune : goal.returns-clause-prune
returns-clause-prune c = attributes_at-prune_step
