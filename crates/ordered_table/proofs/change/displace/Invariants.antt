use Rattle.std.proofs.Common.{◌-◌}
use Rattle.ordered_table.proofs.Settling.{OnWay}
use Rattle.ordered_table.proofs.change.displace.Given as goal

abbrev pub invariant-loop-look : goal.invariant-loop-look
invariant-loop-look g l =
    OnWay (g.W.Draw.drawn l.fn.draw) (g.S.ReadSlots.state l.fn.slots)
    (g.S.ReadSlots.state l.slots) l.fn.way l.fn.hand (l.fn.way.left - l.look) l.at
    × g.S.ReadSlots.follows l.fn.slots l.slots
