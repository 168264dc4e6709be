use Rattle.std.specs.Fmt.{decimal}
use Rattle.host_builder.specs.HostAttributes.{mode_name, mode_byte, mtime_name}
use Rattle.host_builder.proofs.TakerSteps.{set_broken}
use Rattle.host_builder.proofs.taker.BuildTaker.set_in_turn.Goals as goal

pub returns-in-Now-Executes-clause-broken : goal.returns-in-Now-Executes-clause-broken
returns-in-Now-Executes-clause-broken g c =
    let st = g.B.Builder.state in
    set_broken (st c.args.self.now.builder) (st c.let_execute.new.self) c.args.self.now.plan c.args.path.now mode_name
    mode_byte c.let_execute.result c.let_execute.ensures

pub returns-in-Now-Time-clause-broken : goal.returns-in-Now-Time-clause-broken
returns-in-Now-Time-clause-broken g c =
    let st = g.B.Builder.state in
    set_broken (st c.args.self.now.builder) (st c.set_time.new.self) c.args.self.now.plan c.args.path.now mtime_name
    (decimal c.in-Now-Time.seconds) c.set_time.result c.set_time.ensures
