use Rattle.file_blocks.proofs.CutLemmas.{drops_blocks}
use Rattle.file_blocks.proofs.cutting.drop_file.Goals as goal

pub returns-in-None-clause-call : goal.returns-in-None-clause-call
returns-in-None-clause-call g c =
    drops_blocks c.args.path.now c.args.first.now c.args.size (g.P.OrderedPairs.state c.args.pairs.now)
    (g.P.OrderedPairs.state c.cut_bytes.new.pairs)
    c.cut_bytes.result c.in-None.ensures.first c.cut_bytes.ensures.call c.cut_bytes.ensures.fewer
