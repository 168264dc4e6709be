use Rattle.ordered_table.proofs.Settling.{Displacing}
use Rattle.ordered_table.proofs.change.carry_on.Given as goal

abbrev pub invariant-loop-onward : goal.invariant-loop-onward
invariant-loop-onward g l =
    Displacing (g.W.Draw.drawn l.fn.draw) (g.S.ReadSlots.state l.fn.slots)
    (g.S.ReadSlots.state l.slots) l.fn.displaced l.way l.fn.hand l.hand
    × g.S.ReadSlots.follows l.fn.slots l.slots

abbrev pub decreases-loop-onward : goal.decreases-loop-onward
decreases-loop-onward g l = l.way.left
