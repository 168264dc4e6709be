use Rattle.image_create.proofs.LadderLemmas.{least, none}
use Rattle.image_create.proofs.laws.the_ladder_has_the_least_slots.Goals as goal

pub returns-clause-least : goal.returns-clause-least
returns-clause-least c = least

pub returns-clause-none : goal.returns-clause-none
returns-clause-none c = none
