use Rattle.model_laws.proofs.AttributesLemmas.{nodes_after_set, nodes_after_unset, attribute_at-set_step}
use Rattle.model_laws.proofs.AttributesLemmas.{attribute_at-unset_step}
use Rattle.model_laws.proofs.laws.attributes.attributes_change_one_by_one.Goals as goal

pub returns-clause-nodes_after_set : goal.returns-clause-nodes_after_set
returns-clause-nodes_after_set c = nodes_after_set

pub returns-clause-nodes_after_unset : goal.returns-clause-nodes_after_unset
returns-clause-nodes_after_unset c = nodes_after_unset

pub returns-clause-set : goal.returns-clause-set
returns-clause-set c = attribute_at-set_step

pub returns-clause-unset : goal.returns-clause-unset
returns-clause-unset c = attribute_at-unset_step
