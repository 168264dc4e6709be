use Rattle.dump_streams.proofs.ListedLemmas.{adds_piece}
use Rattle.dump_streams.proofs.listed_pairs.ListedPairs.push_piece.Goals as goal

pub returns-clause-added : goal.returns-clause-added
returns-clause-added c =
    adds_piece _ _ _ _ _ _ _ _ _ _ c.as_slice-bytes.ensures.value c.saturating_add.ensures c.set_length.ensures.pairs
    c.set_length.ensures.counter c.push_blocks.ensures.added
