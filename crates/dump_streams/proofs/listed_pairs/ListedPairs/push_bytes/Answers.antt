use Rattle.dump_streams.proofs.TakenPairs.{takes_file, takes_piece}
use Rattle.dump_streams.proofs.listed_pairs.ListedPairs.push_bytes.Goals as goal

pub returns-then-at-eq0-clause-taken : goal.returns-then-at-eq0-clause-taken
returns-then-at-eq0-clause-taken c =
    takes_file _ _ _ _ _ _ _ c.if-at-eq0.true c.requires.draw c.push_file.ensures.params c.push_file.ensures.first
    c.push_file.ensures.added

pub returns-clause-taken : goal.returns-clause-taken
returns-clause-taken c = takes_piece _ _ _ _ _ _ _
    c.if-at-eq0.false c.requires.draw c.push_piece.ensures.params c.push_piece.ensures.first c.push_piece.ensures.added
