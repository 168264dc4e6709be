use Rattle.layout_scratch.proofs.Placing.{ArePlaced}
use Rattle.layout_scratch.proofs.place.place_pages.Given as goal

abbrev pub invariant-loop-number : goal.invariant-loop-number
invariant-loop-number g l = ArePlaced (g.W.Draw.drawn l.draw) l.pages l.places.items l.number
