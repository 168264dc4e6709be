use Rattle.std.proofs.Common.{◌∷◌, [], refl}
use Rattle.std.specs.Fmt.{decimal}
use Rattle.dump_streams.specs.Dumps.DumpStep.{Set}
use Rattle.host_builder.specs.HostAttributes.{mtime_name}
use Rattle.box_calls.proofs.Counting.{counts_built}
use Rattle.box_calls.proofs.counted.CountedBuilderBuilder.set_time.Goals as goal

pub returns : goal.returns
returns g c =
    let st = g.B.Builder.state in
    counts_built (st c.args.self.now.builder) (st c.set_time.new.self) c.args.self.now.counts.left_out
    c.args.self.now.counts.left_out
    refl (Set c.args.path.now mtime_name (decimal c.args.seconds) ∷ []) c.set_time.result c.set_time.ensures
