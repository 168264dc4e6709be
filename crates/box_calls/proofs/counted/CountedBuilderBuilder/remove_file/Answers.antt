use Rattle.box_calls.proofs.Counting.{counts_removed}
use Rattle.box_calls.proofs.counted.CountedBuilderBuilder.remove_file.Goals as goal

pub returns : goal.returns
returns g c =
    let st = g.B.Builder.state in
    counts_removed (st c.args.self.now.builder) (st c.remove_file-is_gone.new.self) c.args.self.now.counts.left_out
    c.drop_file.new.self.left_out
    c.drop_file.ensures (c.args.path.now) c.remove_file-is_gone.result c.remove_file-is_gone.ensures
