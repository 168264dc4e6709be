use Rattle.std.proofs.Common.{List, ◌+◌, [], ◌∷◌, take, Ok, Err, sym, subst}
use Rattle.store_model.specs.Paths.{Path}
use Rattle.host_builder.specs.declared.plan.Later.{Later}
use Rattle.host_builder.specs.Takes.{TakesBack}
use Rattle.host_builder.specs.Turns.{link_paths, link_path}
use Rattle.host_builder.proofs.Waiting.{paths_more, none_taken, taken_broken}
use Rattle.host_builder.proofs.taker.take_links_back.Goals as goal
use Rattle.host_builder.proofs.taker.take_links_back.Goals.{in-Link+in_ok-leave_link_out-in-Link, in-Time}

pub loop-one-preserved : goal.loop-one-preserved
loop-one-preserved g c =
    let st = g.B.Builder.state in
    elim c.match-one.branch [
      | in-Link+in_ok-leave_link_out-in-Link w ↦
          subst (λ (b : g.row.B.Denot). TakesBack (st c.args.builder.now) (st b)
          (link_paths (take (c.loop-one.one-index + 1) c.args.later.now)) (Ok tt)) (sym w.builder-is)
          (paths_more (st c.args.builder.now) (st c.loop-one.builder) (st w.leave_link_out.new.builder) c.args.later.now
          c.loop-one.one-index c.one-item.result c.loop-one-test.true c.one-item.is (Ok tt) c.loop-one.invariant
          (subst (λ (one : Later). TakesBack (st c.loop-one.builder) (st w.leave_link_out.new.builder)
          (link_path one) (Ok tt)) (sym w.in-Link.is) w.in_ok-leave_link_out-in-Link.ensures))
      | in-Time w ↦ subst (λ (b : g.row.B.Denot). TakesBack (st c.args.builder.now) (st b)
          (link_paths (take (c.loop-one.one-index + 1) c.args.later.now)) (Ok tt)) (sym w.builder-is)
          (paths_more (st c.args.builder.now) (st c.loop-one.builder) (st c.loop-one.builder) c.args.later.now
          c.loop-one.one-index c.one-item.result c.loop-one-test.true c.one-item.is (Ok tt) c.loop-one.invariant
          (subst (λ (one : Later). TakesBack (st c.loop-one.builder) (st c.loop-one.builder)
          (link_path one) (Ok tt)) (sym w.in-Time.is) (none_taken (st c.loop-one.builder))))
    ]

pub returns-in_err-leave_link_out-in-Link : goal.returns-in_err-leave_link_out-in-Link
returns-in_err-leave_link_out-in-Link g c =
    let st = g.B.Builder.state in
    taken_broken (st c.args.builder.now) (st c.loop-one.builder) (st c.leave_link_out.new.builder) _ _
    (link_paths c.args.later.now) c.from_residual.result c.in_err-leave_link_out-in-Link.field-0.0
    c.from_residual.ensures.1 c.loop-one.invariant c.in_err-leave_link_out-in-Link.ensures
