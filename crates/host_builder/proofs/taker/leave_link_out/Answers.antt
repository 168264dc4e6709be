use Rattle.host_builder.proofs.Waiting.{left_one}
use Rattle.host_builder.proofs.taker.leave_link_out.Goals as goal

pub returns : goal.returns
returns g c =
    let st = g.B.Builder.state in
    left_one (st c.args.builder.now) (st c.remove_file.new.self) (st c.leave_out.new.self) c.args.path.now
    c.if-not-remove_file.ensures c.leave_out.ensures
