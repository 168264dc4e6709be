use Rattle.tree_changes.proofs.MoveLemmas.{move_leads, move_stops}
use Rattle.tree_changes.proofs.laws.moves_are_meant.Goals as goal

pub returns-clause-leads : goal.returns-clause-leads
returns-clause-leads c forced from to p t u tree valid chain = move_leads p t from to tree forced valid u chain

pub returns-clause-stops : goal.returns-clause-stops
returns-clause-stops c forced from to p t g why tree stops = move_stops p t from to tree forced g why stops
