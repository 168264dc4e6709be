use Rattle.table_walk.specs.Windows.{IsWindowOf}
use Rattle.table_walk.proofs.Checking.{Checking}
use Rattle.table_walk.proofs.Noting.{Noting}
use Rattle.table_walk.proofs.check.check_round.Given as goal

abbrev pub invariant-loop-place : goal.invariant-loop-place
invariant-loop-place g l =
    Checking (g.W.Draw.drawn l.draw) l.height l.round (g.S.ReadSlots.state l.fn.slots)
    (g.S.ReadSlots.state l.slots) l.fn.steps l.steps l.reach l.place l.run l.used
    × g.S.ReadSlots.follows l.fn.slots l.slots
    × IsWindowOf (g.S.ReadSlots.state l.slots) l.window
    × Noting (g.W.Draw.digests l.draw) l.round (g.S.ReadSlots.state l.fn.slots) l.entries l.place l.used
