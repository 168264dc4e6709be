use Rattle.entry_lines.proofs.ListerSteps.{took_one, broke_one}
use Rattle.entry_lines.proofs.lister.EntryListerTaker.take.Goals as goal

pub returns-clause-taken : goal.returns-clause-taken
returns-clause-taken g c = λ first steps took.
    took_one g.W.Sink.state first c.args.self.now c.take_one.new.self steps
    c.args.step.now c.take_one.result took c.take_one.ensures

pub returns-clause-broken : goal.returns-clause-broken
returns-clause-broken g c =
    broke_one g.W.Sink.state c.args.self.now c.take_one.new.self c.args.step.now c.take_one.result
    c.take_one.ensures
