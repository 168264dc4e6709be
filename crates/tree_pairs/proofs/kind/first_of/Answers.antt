use Rattle.std.proofs.Common.{sym, ◌∙◌}
use Rattle.tree_pairs.proofs.KindLemmas.{tells_found}
use Rattle.tree_pairs.proofs.kind.first_of.Goals as goal

pub returns-clause-call : goal.returns-clause-call
returns-clause-call g c =
    tells_found c.args.path.now c.key.result (g.P.OrderedPairs.state c.args.pairs.now)
    (g.P.OrderedPairs.state c.get.new.self) c.get.result c.key.ensures.path (sym c.is_root.ensures.value
    ∙ c.if-is_root.false) c.key.ensures.value c.get.ensures.call
