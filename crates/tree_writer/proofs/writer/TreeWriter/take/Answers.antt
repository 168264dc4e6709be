use Rattle.std.proofs.Common.{sym, ap, subst, ◌∙◌}
use Rattle.dump_streams.specs.Steps.{step_of}
use Rattle.tree_writer.specs.Writing.{TakesStep}
use Rattle.tree_writer.proofs.writer.TreeWriter.take.Goals as goal

pub returns-in-Make : goal.returns-in-Make
returns-in-Make g c =
    subst (λ s. TakesStep g.D.Disk.state s c.args.told c.args.disk.now c.make.new.disk c.args.self.now c.make.new.self
    c.make.result) (sym (ap step_of c.in-Make.is) ∙ c.parts.ensures.parts) (c.make.ensures c.args.told)

pub returns-in-Set : goal.returns-in-Set
returns-in-Set g c =
    subst (λ s. TakesStep g.D.Disk.state s c.args.told c.args.disk.now c.set.new.disk c.args.self.now c.set.new.self
    c.set.result) (sym (ap step_of c.in-Set.is) ∙ c.parts.ensures.parts) (c.set.ensures c.args.told)
