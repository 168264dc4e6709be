use Rattle.tree_changes.proofs.PutMeans.{puts_lead, puts_stop, way_stops}
use Rattle.tree_changes.proofs.laws.puts_are_meant.Goals as goal

pub returns-clause-leads : goal.returns-clause-leads
returns-clause-leads c replaces to listed p u t w tree valid is room chain =
    puts_lead replaces to listed p t tree valid u w is room chain

pub returns-clause-stops_on_the_way : goal.returns-clause-stops_on_the_way
returns-clause-stops_on_the_way c replaces to listed p t g why tree valid stops =
    way_stops replaces to listed p t tree valid g why stops

pub returns-clause-stops : goal.returns-clause-stops
returns-clause-stops c replaces to listed p u t w s g why tree valid is room extends path chain stops =
    puts_stop replaces to listed p t tree valid u w s g why is room extends path chain stops
