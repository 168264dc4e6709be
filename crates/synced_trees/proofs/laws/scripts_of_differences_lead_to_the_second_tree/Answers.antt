use Rattle.synced_trees.proofs.Reached.{script_leads}
use Rattle.synced_trees.proofs.laws.scripts_of_differences_lead_to_the_second_tree.Goals as goal

pub returns : goal.returns
returns c = script_leads
