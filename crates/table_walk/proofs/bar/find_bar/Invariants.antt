use Rattle.std.proofs.Common.{◌≡◌, ◌+◌}
use Rattle.table_walk.proofs.Barring.{Barring}
use Rattle.table_walk.proofs.bar.find_bar.Given as goal

abbrev pub invariant-loop-at : goal.invariant-loop-at
invariant-loop-at g l =
    Barring (g.S.ReadSlots.state l.fn.slots) (g.S.ReadSlots.state l.slots) l.at l.bar l.greatest
    × g.S.ReadSlots.follows l.fn.slots l.slots
    × (l.steps ≡ l.fn.steps + l.at)
