use Rattle.layout_scratch.proofs.LevelGroups.{lead_of_higher, lead_of_others}
use Rattle.layout_scratch.proofs.groups.lead_of_group.Goals as goal

pub returns-then-first-level : goal.returns-then-first-level
returns-then-first-level c = λ d levels. lead_of_higher d c.args.level c.args.group.now c.index-group-0.result levels
    c.requires.some c.index-group-0.is c.if-first-level.true

pub returns-else-first-level : goal.returns-else-first-level
returns-else-first-level c = λ d levels. lead_of_others d c.args.level c.args.group.now c.index-group-0.result levels
    c.requires.some c.requires.uncut c.index-group-0.is c.if-first-level.false
