use Rattle.table_walk.specs.Costs.{KeepsTo}
use Rattle.table_walk.specs.Streams.{progress}
use Rattle.table_walk.proofs.TableSteps.{LevelsSoFar}
use Rattle.table_walk.proofs.walk.walk_groups.Given as goal

abbrev pub invariant-loop-level : goal.invariant-loop-level
invariant-loop-level g l =
    LevelsSoFar (g.W.Draw.drawn l.fn.draw) (g.S.ReadSlots.state l.fn.slots)
    (g.S.ReadSlots.state l.slots) l.level l.fn.used (progress l.met.left l.met.last) (g.P.TakesPairs.took l.fn.sink)
    (g.P.TakesPairs.took l.sink)
    × g.S.ReadSlots.follows l.fn.slots l.slots × g.P.TakesPairs.keeps l.fn.sink l.sink
    × KeepsTo l.fn.entries l.fn.steps l.steps l.fn.used l.met.left l.level
