use Rattle.std.proofs.Common.{[], refl}
use Rattle.box_calls.proofs.Counting.{counts_built}
use Rattle.box_calls.proofs.counted.CountedBuilderBuilder.end_file.Goals as goal

pub returns : goal.returns
returns g c =
    let st = g.B.Builder.state in
    counts_built (st c.args.self.now.builder) (st c.end_file.new.self) c.args.self.now.counts.left_out
    c.args.self.now.counts.left_out
    refl ([]) c.end_file.result c.end_file.ensures
