use Rattle.image_reads.proofs.FileLemmas.{took_one, broke_one}
use Rattle.image_reads.proofs.found.FileTakerTaker.take.Goals as goal

pub returns-clause-taken : goal.returns-clause-taken
returns-clause-taken g c = λ first steps took.
    took_one g.W.Sink.state first c.args.self.now c.note.new.self c.take.new.self steps c.args.step.now c.take.result
    c.note.ensures took (c.take.ensures.contract first.contents steps)

pub returns-clause-broken : goal.returns-clause-broken
returns-clause-broken g c =
    broke_one g.W.Sink.state c.args.self.now c.note.new.self c.take.new.self c.args.step.now c.take.result
    c.note.ensures c.take.ensures.broken
