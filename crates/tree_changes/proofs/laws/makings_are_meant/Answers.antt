use Rattle.tree_changes.proofs.FolderLemmas.{making_leads, making_stops}
use Rattle.tree_changes.proofs.laws.makings_are_meant.Goals as goal

pub returns-clause-leads : goal.returns-clause-leads
returns-clause-leads c paths p t u tree valid chain = making_leads paths p t tree valid u chain

pub returns-clause-stops : goal.returns-clause-stops
returns-clause-stops c paths p t g why tree valid stops = making_stops paths p t tree valid g why stops
