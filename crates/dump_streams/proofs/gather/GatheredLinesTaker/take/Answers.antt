use Rattle.dump_streams.proofs.TakenLines.{gathered_more, gathered_broken}
use Rattle.dump_streams.proofs.gather.GatheredLinesTaker.take.Goals as goal

pub returns-clause-taken : goal.returns-clause-taken
returns-clause-taken g c first steps took =
    gathered_more g.W.Sink.state first c.args.self.now c.take_step.new.self steps _ c.take_step.result
    c.take_step.ensures.same c.take_step.ensures.line took

pub returns-clause-broken : goal.returns-clause-broken
returns-clause-broken g c =
    gathered_broken g.W.Sink.state c.args.self.now c.take_step.new.self _ c.take_step.result
    c.take_step.ensures.same c.take_step.ensures.line
