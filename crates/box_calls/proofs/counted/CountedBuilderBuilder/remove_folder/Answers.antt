use Rattle.std.proofs.Common.{refl}
use Rattle.box_calls.proofs.Counting.{counts_removed}
use Rattle.box_calls.proofs.counted.CountedBuilderBuilder.remove_folder.Goals as goal

pub returns : goal.returns
returns g c =
    let st = g.B.Builder.state in
    counts_removed (st c.args.self.now.builder) (st c.remove_folder.new.self) c.args.self.now.counts.left_out
    c.args.self.now.counts.left_out
    refl (c.args.path.now) c.remove_folder.result c.remove_folder.ensures
