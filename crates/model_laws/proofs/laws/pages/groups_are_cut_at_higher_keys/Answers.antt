use Rattle.model_laws.proofs.PagesLemmasGroups.{flat_map-groups, groups_within, groups_led, highest_group, highest_lead}
use Rattle.model_laws.proofs.laws.pages.groups_are_cut_at_higher_keys.Goals as goal

pub returns-clause-list : goal.returns-clause-list
returns-clause-list c = flat_map-groups

pub returns-clause-within : goal.returns-clause-within
returns-clause-within c = groups_within

pub returns-clause-led : goal.returns-clause-led
returns-clause-led c = groups_led

pub returns-clause-highest : goal.returns-clause-highest
returns-clause-highest c = highest_group

pub returns-clause-highest_lead : goal.returns-clause-highest_lead
returns-clause-highest_lead c = highest_lead
