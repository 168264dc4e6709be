use Rattle.std.proofs.Common.{◌+◌, ◌*◌}
use Rattle.store_base.specs.Leads.{model_lead}
use Rattle.table_walk.specs.Costs.{KeepsTo}
use Rattle.table_walk.specs.Streams.{progress}
use Rattle.table_walk.proofs.CellSteps.{CellsSoFar}
use Rattle.table_walk.proofs.GroupSteps.{RunsSoFar}
use Rattle.table_walk.proofs.StepLemmas.{RunsKeepTo}
use Rattle.table_walk.proofs.walk.+walk.Given as goal

-- a walk goes down by level, and on each from a group to its pages to their cells
abbrev pub decreases-walk_cell : goal.decreases-walk_cell
decreases-walk_cell g l = 3 * l.level

abbrev pub decreases-walk_cells : goal.decreases-walk_cells
decreases-walk_cells g l = 3 * l.page.now.label.level + 1

abbrev pub decreases-walk_group : goal.decreases-walk_group
decreases-walk_group g l = 3 * l.level + 2

abbrev pub invariant-walk_cells-loop-i : goal.invariant-walk_cells-loop-i
invariant-walk_cells-loop-i g l =
    CellsSoFar (g.W.Draw.drawn l.fn.guide.draw.now) (g.S.ReadSlots.state l.fn.slots)
    (g.S.ReadSlots.state l.slots) l.fn.page l.i (progress l.fn.met.left l.fn.met.last)
    (progress l.met.left l.met.last) (g.P.TakesPairs.took l.fn.sink) (g.P.TakesPairs.took l.sink)
    × g.S.ReadSlots.follows l.fn.slots l.slots × g.P.TakesPairs.keeps l.fn.sink l.sink
    × KeepsTo l.fn.guide.entries.now l.fn.steps l.steps l.fn.met.left l.met.left 0

abbrev pub invariant-walk_group-runs : goal.invariant-walk_group-runs
invariant-walk_group-runs g l =
    RunsSoFar (g.W.Draw.drawn l.fn.guide.draw.now) (g.S.ReadSlots.state l.fn.slots)
    (g.S.ReadSlots.state l.slots) l.fn.level (model_lead l.fn.lead) l.index (progress l.fn.met.left l.fn.met.last)
    (progress l.met.left l.met.last) (g.P.TakesPairs.took l.fn.sink) (g.P.TakesPairs.took l.sink)
    × g.S.ReadSlots.follows l.fn.slots l.slots × g.P.TakesPairs.keeps l.fn.sink l.sink
    × RunsKeepTo l.fn.guide.entries.now l.fn.steps l.steps l.fn.met.left l.met.left l.index

-- each run is one page less that is left
abbrev pub decreases-walk_group-runs : goal.decreases-walk_group-runs
decreases-walk_group-runs g l = l.met.left
