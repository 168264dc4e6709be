-- Each clause is a lemma.
use Rattle.layout_conditions.proofs.ExampleLemmas.{both_meet, lower_is_not_met, upper_leads_nothing}
use Rattle.layout_conditions.proofs.examples.two_pages_meet_the_conditions.Goals as goal

pub returns-clause-both : goal.returns-clause-both
returns-clause-both c = both_meet

pub returns-clause-lower_alone : goal.returns-clause-lower_alone
returns-clause-lower_alone c = lower_is_not_met

pub returns-clause-upper_alone : goal.returns-clause-upper_alone
returns-clause-upper_alone c = upper_leads_nothing
