use Rattle.tree_changes.proofs.AttributeLemmas.{set_leads, unset_leads}
use Rattle.tree_changes.proofs.laws.attributes_are_meant.Goals as goal

pub returns-clause-set : goal.returns-clause-set
returns-clause-set c = set_leads

pub returns-clause-unset : goal.returns-clause-unset
returns-clause-unset c = unset_leads
