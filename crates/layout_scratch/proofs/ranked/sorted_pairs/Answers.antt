use Rattle.layout_scratch.proofs.SortedPairs.{pairs_in_order}
use Rattle.layout_scratch.proofs.ranked.sorted_pairs.Goals as goal

pub returns-clause-valid : goal.returns-clause-valid
returns-clause-valid g c = pairs_in_order c.args.pairs.now c.in_ok-ranked.ensures.valid c.requires.distinct
