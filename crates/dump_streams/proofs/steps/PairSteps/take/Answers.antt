use Rattle.std.proofs.Common.{refl}
use Rattle.dump_streams.proofs.TakeLemmas.{taken_step, refused_step, no_step, no_pair}
use Rattle.dump_streams.proofs.steps.PairSteps.take.Goals as goal

pub returns-then-add : goal.returns-then-add
returns-then-add c =
    taken_step c.args.self.now _ c.args.pair c.take.new.into (rw c.in-Step.is at c.take.ensures)
    (rw c.if-add.true at c.add.ensures)

pub returns-else-add : goal.returns-else-add
returns-else-add c =
    refused_step c.args.self.now _ c.args.pair c.take.new.into (rw c.in-Step.is at c.take.ensures)
    (rw c.if-add.false at c.add.ensures)

pub returns-in-More : goal.returns-in-More
returns-in-More c =
    no_step c.args.self.now _ c.args.pair c.take.new.into (rw c.in-More.is at c.take.ensures) refl

pub returns-in-Refused : goal.returns-in-Refused
returns-in-Refused c =
    no_pair c.args.self.now _ c.args.pair c.take.new.into (rw c.in-Refused.is at c.take.ensures) refl
