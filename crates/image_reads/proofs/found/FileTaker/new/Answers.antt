use Rattle.image_reads.proofs.FileLemmas.{took_none}
use Rattle.image_reads.proofs.found.FileTaker.new.Goals as goal

pub returns-clause-none : goal.returns-clause-none
returns-clause-none g c = took_none g.W.Sink.state _
