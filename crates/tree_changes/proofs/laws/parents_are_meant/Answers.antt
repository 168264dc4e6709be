use Rattle.tree_changes.proofs.ParentLemmas.{parents_lead, parents_stop}
use Rattle.tree_changes.proofs.laws.parents_are_meant.Goals as goal

pub returns-clause-leads : goal.returns-clause-leads
returns-clause-leads c paths p t u tree valid chain = parents_lead paths p t tree valid u chain

pub returns-clause-stops : goal.returns-clause-stops
returns-clause-stops c paths p t g why tree valid stops = parents_stop paths p t tree valid g why stops
