use Rattle.std.proofs.Common.{◌∷◌, []}
use Rattle.dump_streams.specs.Dumps.DumpStep.{Write}
use Rattle.box_calls.proofs.Counting.{counts_built}
use Rattle.box_calls.proofs.counted.CountedBuilderBuilder.write.Goals as goal

pub returns : goal.returns
returns g c =
    let st = g.B.Builder.state in
    counts_built (st c.args.self.now.builder) (st c.write-done.new.self) c.args.self.now.counts.left_out
    c.add_bytes.new.self.left_out
    c.add_bytes.ensures (Write c.args.path.now c.args.at c.args.bytes.now ∷ []) c.write-done.result c.write-done.ensures
