use Rattle.std.proofs.Common.{ℕ, List, [], ◌∷◌, ap, refl}
use Rattle.dump_streams.specs.Dumps.{after_step}
use Rattle.dump_streams.specs.Dumps.DumpStep.{Set}
use Rattle.host_builder.specs.declared.memory.BuiltStep.TheVariants as built
use Rattle.host_builder.specs.HostAttributes.{link_name}
use Rattle.host_builder.proofs.Memories.{carried}
use Rattle.host_builder.proofs.memory.MemBuilderBuilder.make_link.Goals as goal

pub returns : goal.returns
returns c =
    let call = carried _ c.carry_out.new.self (built.Link c.args.path.now c.in-Ok.target)
    (Set c.args.path.now link_name c.args.target.now ∷ []) c.carry_out.result
    (λ t. ap (λ (target : List ℕ). after_step t (Set c.args.path.now link_name target)) c.in-Ok.ensures.items)
    c.carry_out.ensures.keeps in
    record {
      observable = refl;
      faults = call.faults;
      left_out = call.left_out;
      holds = call.holds;
      brings = call.brings;
    }
