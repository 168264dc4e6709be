use Rattle.page_store.proofs.IndexLemmas.{Noting}
use Rattle.page_store.proofs.index.note_slots.Given as goal

abbrev pub invariant-loop-at : goal.invariant-loop-at
invariant-loop-at g l =
    Noting (g.W.Draw.digests l.fn.draw) (g.S.ReadSlots.state l.fn.slots) (g.S.ReadSlots.state l.slots)
    l.at l.index.entries × g.S.ReadSlots.follows l.fn.slots l.slots
