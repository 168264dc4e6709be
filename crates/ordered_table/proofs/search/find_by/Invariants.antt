use Rattle.std.proofs.Common.{◌≡◌, ◌+◌}
use Rattle.ordered_table.proofs.Searching.{Searching}
use Rattle.ordered_table.proofs.search.find_by.Given as goal

abbrev pub invariant-loop-look : goal.invariant-loop-look
invariant-loop-look g l =
    Searching (g.W.Draw.drawn l.fn.draw) (g.S.ReadSlots.state l.fn.slots)
    (g.S.ReadSlots.state l.slots) l.label l._look l.at
    × g.S.ReadSlots.follows l.fn.slots l.slots
    × (l.steps ≡ l.fn.steps + l._look)
