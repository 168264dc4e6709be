use Rattle.entry_lines.proofs.ListerSteps.{took_none}
use Rattle.entry_lines.proofs.lister.EntryLister.new.Goals as goal

pub returns-clause-none : goal.returns-clause-none
returns-clause-none g c = took_none g.W.Sink.state _
