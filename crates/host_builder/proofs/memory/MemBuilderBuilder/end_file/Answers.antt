use Rattle.std.proofs.Common.{[], refl}
use Rattle.host_builder.specs.declared.memory.BuiltStep.TheVariants as built
use Rattle.host_builder.proofs.Memories.{built_by}
use Rattle.host_builder.proofs.memory.MemBuilderBuilder.end_file.Goals as goal

pub returns : goal.returns
returns c =
    built_by c.args.self.now c.carry_out.new.self (built.Ended c.args.path.now) [] c.carry_out.result (λ t. refl)
    c.carry_out.ensures.keeps
