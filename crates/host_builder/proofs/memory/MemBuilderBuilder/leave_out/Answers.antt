use Rattle.std.proofs.Common.{◌∙◌}
use Rattle.host_builder.proofs.Memories.{told}
use Rattle.host_builder.proofs.memory.MemBuilderBuilder.leave_out.Goals as goal

pub returns : goal.returns
returns c =
    let call = c.keep.ensures in
    told c.args.self.now c.keep.new.self c.args.path.now c.args.why c.keep.result call.kept call.same call.faults
    call.links (call.left_out ∙ c.saturating_add-self.ensures)
