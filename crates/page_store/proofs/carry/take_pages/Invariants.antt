use Rattle.std.proofs.Common.{◌≡◌}
use Rattle.page_store.proofs.CarryLemmas.{TakingPages}
use Rattle.page_store.proofs.carry.take_pages.Given as goal

abbrev pub invariant-loop-label : goal.invariant-loop-label
invariant-loop-label g l =
    TakingPages (g.W.Draw.drawn l.fn.finder.draw) (g.S.ReadSlots.state l.fn.slots)
    (g.S.ReadSlots.state l.slots) l.changes.pages.entries l.label-iterator
    × g.S.ReadSlots.follows l.fn.slots l.slots × (l.finder.draw ≡ l.fn.finder.draw)
