use Rattle.tree_changes.proofs.RemovalLemmas.{removal_leads, removal_stops}
use Rattle.tree_changes.proofs.laws.removals_are_meant.Goals as goal

pub returns-clause-leads : goal.returns-clause-leads
returns-clause-leads c recursive forced paths p t u tree order chain =
    removal_leads recursive forced paths p t tree order u chain

pub returns-clause-stops : goal.returns-clause-stops
returns-clause-stops c recursive forced paths p t g why tree order stops =
    removal_stops recursive forced paths p t tree order g why stops
