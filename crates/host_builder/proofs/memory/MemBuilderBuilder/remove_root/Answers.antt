use Rattle.std.proofs.Common.{refl}
use Rattle.host_builder.specs.declared.memory.BuiltStep.TheVariants as built
use Rattle.host_builder.proofs.Memories.{removed_root}
use Rattle.host_builder.proofs.memory.MemBuilderBuilder.remove_root.Goals as goal

pub returns : goal.returns
returns c =
    let call = c.remove.ensures in
    removed_root c.args.self.now c.remove.new.self built.RemovedRoot c.remove.result call.faults call.kept call.same
    (λ t. refl) call.links
