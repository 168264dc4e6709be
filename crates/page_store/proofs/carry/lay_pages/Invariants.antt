use Rattle.std.proofs.Common.{◌≡◌}
use Rattle.std.specs.BTreeMap.{values}
use Rattle.page_store.proofs.LayingLemmas.{LayingPages}
use Rattle.page_store.proofs.carry.lay_pages.Given as goal

abbrev pub invariant-loop-change : goal.invariant-loop-change
invariant-loop-change g l =
    LayingPages (g.W.Draw.drawn l.fn.finder.draw) (g.S.ReadSlots.state l.fn.slots) (g.S.ReadSlots.state l.slots)
    (values l.changes.pages) l.change-iterator × g.S.ReadSlots.follows l.fn.slots l.slots
    × (l.finder.draw ≡ l.fn.finder.draw)
