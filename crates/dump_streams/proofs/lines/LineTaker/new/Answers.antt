use Rattle.dump_streams.proofs.TakenLines.{appends_none}
use Rattle.dump_streams.proofs.lines.LineTaker.new.Goals as goal

pub returns-clause-none : goal.returns-clause-none
returns-clause-none g c = appends_none _
