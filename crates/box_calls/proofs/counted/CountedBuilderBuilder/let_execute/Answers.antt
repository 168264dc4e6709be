use Rattle.std.proofs.Common.{◌∷◌, [], refl}
use Rattle.dump_streams.specs.Dumps.DumpStep.{Set}
use Rattle.host_builder.specs.HostAttributes.{mode_name, mode_byte}
use Rattle.box_calls.proofs.Counting.{counts_built}
use Rattle.box_calls.proofs.counted.CountedBuilderBuilder.let_execute.Goals as goal

pub returns : goal.returns
returns g c =
    let st = g.B.Builder.state in
    counts_built (st c.args.self.now.builder) (st c.let_execute.new.self) c.args.self.now.counts.left_out
    c.args.self.now.counts.left_out
    refl (Set c.args.path.now mode_name mode_byte ∷ []) c.let_execute.result c.let_execute.ensures
