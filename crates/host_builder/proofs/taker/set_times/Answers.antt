use Rattle.std.proofs.Common.{◌+◌, take, Ok, Err, sym, subst}
use Rattle.std.specs.Fmt.{decimal}
use Rattle.host_builder.specs.declared.plan.Later.{Later}
use Rattle.host_builder.specs.HostAttributes.{mtime_name}
use Rattle.host_builder.specs.Takes.{CarriesLater}
use Rattle.host_builder.specs.Turns.{time_steps, time_step}
use Rattle.host_builder.proofs.Waiting.{times_more, none_made, sets_one, later_broken}
use Rattle.host_builder.proofs.taker.set_times.Goals as goal
use Rattle.host_builder.proofs.taker.set_times.Goals.{in-Time+in_ok-set_time-in-Time, in-Link}

pub loop-one-preserved : goal.loop-one-preserved
loop-one-preserved g c =
    let st = g.B.Builder.state in
    elim c.match-one.branch [
      | in-Time+in_ok-set_time-in-Time w ↦
          subst (λ (b : g.row.B.Denot). CarriesLater (st c.args.builder.now) (st b)
          (time_steps (take (c.loop-one.one-index + 1) c.args.later.now)) (Ok tt)) (sym w.builder-is)
          (times_more (st c.args.builder.now) (st c.loop-one.builder) (st w.set_time.new.self) c.args.later.now
          c.loop-one.one-index c.one-item.result c.loop-one-test.true c.one-item.is (Ok tt) c.loop-one.invariant
          (subst (λ (one : Later). CarriesLater (st c.loop-one.builder) (st w.set_time.new.self)
          (time_step one) (Ok tt)) (sym w.in-Time.is)
          (sets_one (st c.loop-one.builder) (st w.set_time.new.self) w.in-Time.path mtime_name
          (decimal w.in-Time.seconds) (Ok tt) w.in_ok-set_time-in-Time.ensures.carries_out)))
      | in-Link w ↦ subst (λ (b : g.row.B.Denot). CarriesLater (st c.args.builder.now) (st b)
          (time_steps (take (c.loop-one.one-index + 1) c.args.later.now)) (Ok tt)) (sym w.builder-is)
          (times_more (st c.args.builder.now) (st c.loop-one.builder) (st c.loop-one.builder) c.args.later.now
          c.loop-one.one-index c.one-item.result c.loop-one-test.true c.one-item.is (Ok tt) c.loop-one.invariant
          (subst (λ (one : Later). CarriesLater (st c.loop-one.builder) (st c.loop-one.builder)
          (time_step one) (Ok tt)) (sym w.in-Link.is) (none_made (st c.loop-one.builder))))
    ]

pub returns-in_err-set_time-in-Time : goal.returns-in_err-set_time-in-Time
returns-in_err-set_time-in-Time g c =
    let st = g.B.Builder.state in
    later_broken (st c.args.builder.now) (st c.loop-one.builder) (st c.set_time.new.self) _ _
    (time_steps c.args.later.now) c.from_residual.result c.in_err-set_time-in-Time.field-0.0 c.from_residual.ensures.1
    c.loop-one.invariant
    (sets_one (st c.loop-one.builder) (st c.set_time.new.self) c.in-Time.path mtime_name (decimal c.in-Time.seconds)
    (Err c.in_err-set_time-in-Time.field-0.0) c.in_err-set_time-in-Time.ensures.carries_out)
