use Rattle.dump_diff.proofs.TakenAdditions.{took_none}
use Rattle.dump_diff.proofs.script.AdditionTaker.new.Goals as goal

pub returns-clause-none : goal.returns-clause-none
returns-clause-none g c = took_none g.W.Sink.state _
