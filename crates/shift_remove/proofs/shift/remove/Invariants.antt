use Rattle.shift_remove.proofs.RemoveCalls.{Removing}
use Rattle.shift_remove.proofs.shift.remove.Given as goal

abbrev pub invariant-loop-look : goal.invariant-loop-look
invariant-loop-look g l =
    Removing (g.W.Draw.drawn l.fn.draw) (g.S.ReadSlots.state l.fn.slots)
    (g.S.ReadSlots.state l.slots) l.fn.at l._look l.place l.hole
    × g.S.ReadSlots.follows l.fn.slots l.slots
