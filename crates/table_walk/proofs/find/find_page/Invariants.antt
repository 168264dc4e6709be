use Rattle.std.proofs.Common.{◌≡◌, None}
use Rattle.table_walk.proofs.Alike.{LookedAt}
use Rattle.table_walk.proofs.Looking.{LooksTo}
use Rattle.table_walk.proofs.find.find_page.Given as goal

abbrev pub invariant-loop-at : goal.invariant-loop-at
invariant-loop-at g l = LooksTo (g.S.ReadSlots.state l.fn.slots)
    (g.S.ReadSlots.state l.slots) l.entries l.label l.digest l.at × g.S.ReadSlots.follows l.fn.slots l.slots
    × LookedAt l.entries l.digest l.first l.at l.fn.steps l.steps × (l.found ≡ None)
