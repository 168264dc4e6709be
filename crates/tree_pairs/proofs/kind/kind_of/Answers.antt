use Rattle.tree_pairs.proofs.KindLemmas.{tells_kind}
use Rattle.tree_pairs.proofs.kind.kind_of.Goals as goal

pub returns-clause-call : goal.returns-clause-call
returns-clause-call g c =
    tells_kind c.args.path.now (g.P.OrderedPairs.state c.args.pairs.now)
    (g.P.OrderedPairs.state c.first_of.new.pairs)
    c.in_ok-first.first c.kind_told.result c.in_ok-first.ensures.call c.kind_told.ensures
