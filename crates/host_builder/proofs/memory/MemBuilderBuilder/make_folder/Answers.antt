use Rattle.std.proofs.Common.{[], ◌∷◌, refl}
use Rattle.dump_streams.specs.Dumps.DumpStep.{Make}
use Rattle.host_builder.specs.declared.memory.BuiltStep.TheVariants as built
use Rattle.host_builder.proofs.Memories.{built_by}
use Rattle.host_builder.proofs.memory.MemBuilderBuilder.make_folder.Goals as goal

pub returns : goal.returns
returns c =
    built_by c.args.self.now c.carry_out.new.self (built.Folder c.args.path.now) (Make c.args.path.now ∷ [])
    c.carry_out.result (λ t. refl)
    c.carry_out.ensures.keeps
