use Rattle.table_walk.specs.Windows.{IsWindowOf}
use Rattle.table_walk.proofs.Passing.{Passing}
use Rattle.table_walk.proofs.way.passed_from.Given as goal

abbrev pub invariant-loop-from : goal.invariant-loop-from
invariant-loop-from g l =
    Passing l.round (g.S.ReadSlots.state l.fn.slots)
    (g.S.ReadSlots.state l.slots) l.page l.reach l.fn.steps l.steps l.from
    × g.S.ReadSlots.follows l.fn.slots l.slots
    × IsWindowOf (g.S.ReadSlots.state l.slots) l.window

abbrev pub decreases-loop-from : goal.decreases-loop-from
decreases-loop-from g l = l.from
