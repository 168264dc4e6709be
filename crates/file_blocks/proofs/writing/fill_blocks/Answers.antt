use Rattle.file_blocks.proofs.PutLemmas.{fills_blocks}
use Rattle.file_blocks.proofs.writing.fill_blocks.Goals as goal

pub returns-in-Some-clause-call : goal.returns-in-Some-clause-call
returns-in-Some-clause-call g c =
    fills_blocks c.args.path.now c.args.first.now c.in-Some.bytes.now _ (g.P.OrderedPairs.state c.args.pairs.now)
    (g.P.OrderedPairs.state c.put_bytes.new.pairs)
    c.put_bytes.result c.in-Some.ensures.fits c.in-Some.ensures.first c.put_bytes.ensures.call
