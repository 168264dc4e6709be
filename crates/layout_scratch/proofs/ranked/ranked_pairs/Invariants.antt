use Rattle.layout_scratch.proofs.SortedPairs.{RanksFirst}
use Rattle.layout_scratch.proofs.ranked.ranked_pairs.Given as goal

abbrev pub invariant-loop-pair : goal.invariant-loop-pair
invariant-loop-pair g l = RanksFirst (g.W.Draw.drawn l.draw) l.pairs l.pair-index l.ranked.items
