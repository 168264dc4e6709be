use Rattle.file_blocks.proofs.ReadLemmas.{reads_blocks}
use Rattle.file_blocks.proofs.reading.read_file.Goals as goal

pub returns-in-None-clause-call : goal.returns-in-None-clause-call
returns-in-None-clause-call g c =
    reads_blocks c.args.path.now c.args.first.now c.args.at c.args.count (g.P.OrderedPairs.state c.args.pairs.now)
    (g.P.OrderedPairs.state c.read_bytes.new.pairs)
    c.read_bytes.result c.in-None.ensures.first c.read_bytes.ensures.call
