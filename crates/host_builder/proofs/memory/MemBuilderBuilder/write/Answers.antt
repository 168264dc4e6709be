use Rattle.std.proofs.Common.{ℕ, List, [], ◌∷◌, ap, refl}
use Rattle.dump_streams.specs.Dumps.{after_step}
use Rattle.dump_streams.specs.Dumps.DumpStep.{Write}
use Rattle.host_builder.specs.declared.memory.BuiltStep.TheVariants as built
use Rattle.host_builder.proofs.Memories.{built_by}
use Rattle.host_builder.proofs.memory.MemBuilderBuilder.write.Goals as goal

pub returns : goal.returns
returns c =
    built_by c.args.self.now c.carry_out.new.self (built.Bytes c.args.path.now c.args.at c.in-Ok.bytes)
    (Write c.args.path.now c.args.at c.args.bytes.now ∷ []) c.carry_out.result
    (λ t. ap (λ (bytes : List ℕ). after_step t (Write c.args.path.now c.args.at bytes)) c.in-Ok.ensures.items)
    c.carry_out.ensures.keeps
