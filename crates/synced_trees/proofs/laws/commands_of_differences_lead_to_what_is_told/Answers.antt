use Rattle.synced_trees.proofs.Reached.{commands_lead}
use Rattle.synced_trees.proofs.laws.commands_of_differences_lead_to_what_is_told.Goals as goal

pub returns : goal.returns
returns c = commands_lead
