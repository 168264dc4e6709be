use Rattle.dump_views.proofs.ContentLemmas.{took_one, broke_one}
use Rattle.dump_views.proofs.content.ContentTakerTaker.take.Goals as goal

pub returns-clause-contract : goal.returns-clause-contract
returns-clause-contract g c = λ first steps took.
    took_one g.W.Sink.state first c.args.self.now c.take_one.new.self steps
    c.args.step.now c.take_one.result took c.take_one.ensures.taken

pub returns-clause-broken : goal.returns-clause-broken
returns-clause-broken g c =
    broke_one g.W.Sink.state c.args.self.now c.take_one.new.self c.args.step.now c.take_one.result
    c.take_one.ensures.taken c.take_one.ensures.fault
