use Rattle.std.proofs.Common.{[], ◌∷◌, refl}
use Rattle.dump_streams.specs.Dumps.DumpStep.{Set}
use Rattle.host_builder.specs.HostAttributes.{mode_name, mode_byte}
use Rattle.host_builder.specs.declared.memory.BuiltStep.TheVariants as built
use Rattle.host_builder.proofs.Memories.{built_by}
use Rattle.host_builder.proofs.memory.MemBuilderBuilder.let_execute.Goals as goal

pub returns : goal.returns
returns c =
    built_by c.args.self.now c.carry_out.new.self (built.Executes c.args.path.now)
    (Set c.args.path.now mode_name mode_byte ∷ []) c.carry_out.result (λ t. refl)
    c.carry_out.ensures.keeps
