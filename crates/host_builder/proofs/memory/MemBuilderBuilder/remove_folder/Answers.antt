use Rattle.std.proofs.Common.{refl}
use Rattle.host_builder.specs.declared.memory.BuiltStep.TheVariants as built
use Rattle.host_builder.proofs.Memories.{removed}
use Rattle.host_builder.proofs.memory.MemBuilderBuilder.remove_folder.Goals as goal

pub returns : goal.returns
returns c =
    let call = c.remove.ensures in
    removed c.args.self.now c.remove.new.self (built.Removed c.args.path.now) c.remove.result call.faults call.kept
    call.same c.args.path.now (λ t. refl) call.links call.left_out
