use Rattle.std.proofs.Common.{refl}
use Rattle.box_calls.proofs.Counting.{counts_root}
use Rattle.box_calls.proofs.counted.CountedBuilderBuilder.remove_root.Goals as goal

pub returns : goal.returns
returns g c =
    let st = g.B.Builder.state in
    counts_root (st c.args.self.now.builder) (st c.remove_root.new.self) c.args.self.now.counts.left_out
    c.args.self.now.counts.left_out
    refl c.remove_root.result c.remove_root.ensures
