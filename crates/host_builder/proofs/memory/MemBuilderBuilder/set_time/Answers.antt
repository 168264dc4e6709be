use Rattle.std.proofs.Common.{[], ◌∷◌, refl}
use Rattle.std.specs.Fmt.{decimal}
use Rattle.dump_streams.specs.Dumps.DumpStep.{Set}
use Rattle.host_builder.specs.HostAttributes.{mtime_name}
use Rattle.host_builder.specs.declared.memory.BuiltStep.TheVariants as built
use Rattle.host_builder.proofs.Memories.{built_by}
use Rattle.host_builder.proofs.memory.MemBuilderBuilder.set_time.Goals as goal

pub returns : goal.returns
returns c =
    built_by c.args.self.now c.carry_out.new.self (built.Time c.args.path.now c.args.seconds)
    (Set c.args.path.now mtime_name (decimal c.args.seconds) ∷ []) c.carry_out.result (λ t. refl)
    c.carry_out.ensures.keeps
