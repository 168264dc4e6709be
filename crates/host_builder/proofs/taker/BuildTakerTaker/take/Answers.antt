use Rattle.std.proofs.Common.{ℕ, List, ap, subst, ◌∙◌}
use Rattle.dump_streams.specs.Dumps.DumpStep.{Write, Set}
use Rattle.host_builder.specs.Takes.{Looked}
use Rattle.host_builder.proofs.Steps.{took_on, took_left, broke_on}
use Rattle.host_builder.proofs.taker.BuildTakerTaker.take.Goals as goal

pub returns-in-Make-clause-taken : goal.returns-in-Make-clause-taken
returns-in-Make-clause-taken g c first steps took =
    let st = g.B.Builder.state in
    took_on (st first.builder) (st c.args.self.now.builder) (st c.is_left_out.new.self.builder)
    (st c.make.new.self.builder) first.plan c.args.self.now.plan c.is_left_out.new.self.plan c.make.new.self.plan
    steps _
    c.args.step.now c.make.result c.in-Make.ensures.parts took
    (subst (Looked (st c.args.self.now.builder) (st c.is_left_out.new.self.builder) c.args.self.now.plan
    c.is_left_out.new.self.plan c.args.step.now) c.if-branch.false c.in_ok-is_left_out.ensures.looked)
    c.make.ensures.took

pub returns-in-Write-clause-taken : goal.returns-in-Write-clause-taken
returns-in-Write-clause-taken g c first steps took =
    let st = g.B.Builder.state in
    took_on (st first.builder) (st c.args.self.now.builder) (st c.is_left_out.new.self.builder)
    (st c.write.new.self.builder) first.plan c.args.self.now.plan c.is_left_out.new.self.plan c.write.new.self.plan
    steps _
    c.args.step.now c.write.result
    (ap (λ (xs : List ℕ). Write c.in-Write.path.now c.in-Write.at xs) c.as_slice.ensures.value
    ∙ c.in-Write.ensures.parts) took
    (subst (Looked (st c.args.self.now.builder) (st c.is_left_out.new.self.builder) c.args.self.now.plan
    c.is_left_out.new.self.plan c.args.step.now) c.if-branch.false c.in_ok-is_left_out.ensures.looked)
    c.write.ensures.took

pub returns-in-Set-clause-taken : goal.returns-in-Set-clause-taken
returns-in-Set-clause-taken g c first steps took =
    let st = g.B.Builder.state in
    took_on (st first.builder) (st c.args.self.now.builder) (st c.is_left_out.new.self.builder)
    (st c.set.new.self.builder) first.plan c.args.self.now.plan c.is_left_out.new.self.plan c.set.new.self.plan steps _
    c.args.step.now c.set.result
    (ap (λ (xs : List ℕ). Set c.in-Set.path.now c.in-Set.name.now xs) c.as_slice-in-Set.ensures.value
    ∙ c.in-Set.ensures.parts) took
    (subst (Looked (st c.args.self.now.builder) (st c.is_left_out.new.self.builder) c.args.self.now.plan
    c.is_left_out.new.self.plan c.args.step.now) c.if-branch.false c.in_ok-is_left_out.ensures.looked)
    c.set.ensures.took
