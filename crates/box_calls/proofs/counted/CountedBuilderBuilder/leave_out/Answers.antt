use Rattle.box_calls.proofs.Counting.{counts_told}
use Rattle.box_calls.proofs.counted.CountedBuilderBuilder.leave_out.Goals as goal

pub returns : goal.returns
returns g c =
    let st = g.B.Builder.state in
    counts_told (st c.args.self.now.builder) (st c.leave_out.new.self) c.args.self.now.counts.left_out
    c.add_left_out.new.self.left_out c.add_left_out.ensures c.leave_out.ensures
