use Rattle.dump_views.proofs.ContentLemmas.{took_none}
use Rattle.dump_views.proofs.content.ContentTaker.new.Goals as goal

pub returns-clause-none : goal.returns-clause-none
returns-clause-none g c = took_none g.W.Sink.state _
