use Rattle.box_calls.proofs.Counting.{counts_same}
use Rattle.box_calls.proofs.counted.CountedBuilderBuilder.leave_attribute_out.Goals as goal

pub returns : goal.returns
returns g c =
    let st = g.B.Builder.state in
    counts_same (st c.args.self.now.builder) (st c.leave_attribute_out.new.self) c.args.self.now.counts.left_out
    c.leave_attribute_out.ensures
