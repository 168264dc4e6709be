use Rattle.std.proofs.Common.{ℕ, ◌+◌, take, List, [], ◌∷◌, Ok, Err, sym, subst}
use Rattle.dump_streams.specs.Dumps.DumpStep.{Set}
use Rattle.host_builder.specs.declared.plan.Later.{Later}
use Rattle.host_builder.specs.HostAttributes.{link_name}
use Rattle.host_builder.specs.Takes.{CarriesLater}
use Rattle.host_builder.specs.Turns.{link_steps, link_step}
use Rattle.host_builder.proofs.Waiting.{links_more, none_made, sets_one, later_broken}
use Rattle.host_builder.proofs.taker.make_links.Goals as goal
use Rattle.host_builder.proofs.taker.make_links.Goals.{in-Link+in_ok-make_link-in-Link, in-Time}

pub loop-one-preserved : goal.loop-one-preserved
loop-one-preserved g c =
    let st = g.B.Builder.state in
    elim c.match-one.branch [
      | in-Link+in_ok-make_link-in-Link w ↦
          subst (λ (b : g.row.B.Denot). CarriesLater (st c.args.builder.now) (st b)
          (link_steps (take (c.loop-one.one-index + 1) c.args.later.now)) (Ok tt)) (sym w.builder-is)
          (links_more (st c.args.builder.now) (st c.loop-one.builder) (st w.make_link.new.self) c.args.later.now
          c.loop-one.one-index c.one-item.result c.loop-one-test.true c.one-item.is (Ok tt) c.loop-one.invariant
          (subst (λ (one : Later). CarriesLater (st c.loop-one.builder) (st w.make_link.new.self)
          (link_step one) (Ok tt)) (sym w.in-Link.is)
          (subst (λ (target : List ℕ). CarriesLater (st c.loop-one.builder) (st w.make_link.new.self)
          (Set w.in-Link.path link_name target ∷ []) (Ok tt)) w.deref.ensures.value
          (sets_one (st c.loop-one.builder) (st w.make_link.new.self) w.in-Link.path link_name _ (Ok tt)
          w.in_ok-make_link-in-Link.ensures))))
      | in-Time w ↦ subst (λ (b : g.row.B.Denot). CarriesLater (st c.args.builder.now) (st b)
          (link_steps (take (c.loop-one.one-index + 1) c.args.later.now)) (Ok tt)) (sym w.builder-is)
          (links_more (st c.args.builder.now) (st c.loop-one.builder) (st c.loop-one.builder) c.args.later.now
          c.loop-one.one-index c.one-item.result c.loop-one-test.true c.one-item.is (Ok tt) c.loop-one.invariant
          (subst (λ (one : Later). CarriesLater (st c.loop-one.builder) (st c.loop-one.builder)
          (link_step one) (Ok tt)) (sym w.in-Time.is) (none_made (st c.loop-one.builder))))
    ]

pub returns-in_err-make_link-in-Link : goal.returns-in_err-make_link-in-Link
returns-in_err-make_link-in-Link g c =
    let st = g.B.Builder.state in
    later_broken (st c.args.builder.now) (st c.loop-one.builder) (st c.make_link.new.self) _ _
    (link_steps c.args.later.now) c.from_residual.result c.in_err-make_link-in-Link.field-0.0 c.from_residual.ensures.1
    c.loop-one.invariant
    (sets_one (st c.loop-one.builder) (st c.make_link.new.self) c.in-Link.path link_name _
    (Err c.in_err-make_link-in-Link.field-0.0) c.in_err-make_link-in-Link.ensures)
