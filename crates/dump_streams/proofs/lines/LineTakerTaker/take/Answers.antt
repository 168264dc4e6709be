use Rattle.dump_streams.proofs.TakenLines.{appends_more}
use Rattle.dump_streams.proofs.lines.LineTakerTaker.take.Goals as goal

pub returns-in-Ok-clause-taken : goal.returns-in-Ok-clause-taken
returns-in-Ok-clause-taken g c first steps took =
    appends_more (g.W.Sink.state first.sink) (g.W.Sink.state c.args.self.now.sink)
    (g.W.Sink.state c.write_step.new.sink) steps _ took c.in-Ok.ensures
