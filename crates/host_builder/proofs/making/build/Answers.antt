use Rattle.std.proofs.Common.{◌≡◌, List, Result, Ok, Err, refl, sym, ap, subst, ◌∙◌}
use Rattle.dump_streams.specs.Dumps.{DumpStep, dump}
use Rattle.dump_streams.specs.declared.taker.TakerFault.{TakerFault}
use Rattle.host_builder.specs.declared.attribute.Wanted.{Wanted}
use Rattle.host_builder.specs.declared.making.BuildFault.{BuildFault}
use Rattle.host_builder.specs.declared.plan.Standing.{Standing}
use Rattle.host_builder.specs.Builders.{risen}
use Rattle.host_builder.specs.Faults.{build_fault}
use Rattle.host_builder.specs.Takes.{Finishes, TakesAway}
use Rattle.host_builder.specs.Views.{Makes, host_view, count_left_out}
use Rattle.host_builder.proofs.BuildEnds.{stops, finish_stops}
use Rattle.host_builder.proofs.PassedSteps.{steps_named}
use Rattle.host_builder.proofs.ViewTrees.{view_built, count_built}
use Rattle.host_builder.proofs.making.build.Goals as goal

pub returns-in-Err-clause-makes : goal.returns-in-Err-clause-makes
returns-in-Err-clause-makes g c came =
    let st = g.B.Builder.state in
    let first = c.new-taker.result in
    let taker = c.drain.new.taker in
    let made = c.unmade.result in
    let parts = c.into_parts-builder.ensures in
    let fault_is : c.fault_of.result ≡ build_fault c.in-Err.fault taker.plan.obstacle =
    c.fault_of.ensures ∙ ap (build_fault c.in-Err.fault) parts.obstacle in
    subst (Makes g.S.DumpStream.came g.S.DumpStream.whole g.S.DumpStream.fails c.drain.new.stream (st c.args.builder)
    (st made.builder) c.args.wanted made.stays)
    (ap (λ (fault : BuildFault). Err fault) (sym fault_is) ∙ sym c.unmade.ensures.done)
    (stops g.S.DumpStream.came g.S.DumpStream.whole g.S.DumpStream.fails (λ t. st t.builder) (λ t. t.plan)
    c.drain.new.stream first taker (st c.args.builder) (st made.builder) c.args.wanted made.stays
    (ap st c.new-taker.ensures.builder) c.new-taker.ensures.fresh c.new-taker.ensures.wanted
    (ap (λ b. (st b).has_links) (sym parts.builder) ∙ parts.links)
    (subst (λ b. TakesAway (st b) (st made.builder) taker.plan.stands.items made.stays) parts.builder
    (subst (λ v. TakesAway (st c.into_parts-builder.result.0) (st made.builder) v.items made.stays) parts.stands
    c.unmade.ensures.takes))
    c.in-Err.fault (c.in-Err.ensures.drains came c.new-taker.ensures.none))

pub returns-in-Err-finished-clause-makes : goal.returns-in-Err-finished-clause-makes
returns-in-Err-finished-clause-makes g c came =
    let st = g.B.Builder.state in
    let first = c.new-taker.result in
    let taker = c.drain.new.taker in
    let made = c.unmade-in-Err-finished.result in
    let whole = c.in_default.ensures.drains came c.new-taker.ensures.none in
    subst (Makes g.S.DumpStream.came g.S.DumpStream.whole g.S.DumpStream.fails c.drain.new.stream (st c.args.builder)
    (st made.builder) c.args.wanted made.stays) (sym c.unmade-in-Err-finished.ensures.done)
    (finish_stops (st c.args.builder) (st first.builder) (st taker.builder) (st c.finish-builder.result.0)
    (st made.builder) first.plan taker.plan made.stays c.in-Err-finished.fault (ap st c.new-taker.ensures.builder)
    c.new-taker.ensures.fresh whole.tree whole.took_is
    (subst (Finishes taker.plan.wanted.links (st taker.builder) (st c.finish-builder.result.0) taker.plan.later.items)
    c.in-Err-finished.is c.finish-builder.ensures.finishes)
    (subst (λ v. TakesAway (st c.finish-builder.result.0) (st made.builder) v.items made.stays)
    c.finish-builder.ensures.stands c.unmade-in-Err-finished.ensures.takes))

pub returns-in-Ok-clause-makes : goal.returns-in-Ok-clause-makes
returns-in-Ok-clause-makes g c came =
    let st = g.B.Builder.state in
    let first = c.new-taker.result in
    let taker = c.drain.new.taker in
    let last = st c.finish-builder.result.0 in
    let whole = c.in_default.ensures.drains came c.new-taker.ensures.none in
    let took = whole.took_is in
    let finishes = subst (Finishes taker.plan.wanted.links (st taker.builder) last taker.plan.later.items) c.in-Ok.is
    c.finish-builder.ensures.finishes in
    let builder_is = c.new-taker.ensures.builder in
    let wanted_is : first.plan.wanted ≡ c.args.wanted = c.new-taker.ensures.wanted in
    record {
      tree = whole.tree;
      whole_is = whole.whole_is;
      observable = finishes.observable ∙ took.observable ∙ ap (λ b. (st b).is_observable) builder_is;
      faults = finishes.faults ∙ took.faults ∙ ap (λ b. (st b).faults) builder_is;
      left_out = λ tree.
          count_built whole.tree (st first.builder) (st taker.builder) last first.plan taker.plan took
          c.new-taker.ensures.fresh finishes tree
          ∙ ap (λ b. risen (st b).left_out (count_left_out first.plan.wanted whole.tree)) builder_is
          ∙ ap (λ (wanted : Wanted). risen (st c.args.builder).left_out (count_left_out wanted whole.tree)) wanted_is;
      named = λ skips. steps_named whole.tree (took.named (ap (λ (wanted : Wanted). wanted.skips) wanted_is ∙ skips));
      holds = λ tree seen none.
          view_built whole.tree (st first.builder) (st taker.builder) last first.plan taker.plan took
          c.new-taker.ensures.fresh finishes tree (ap (λ b. (st b).is_observable) builder_is ∙ seen)
          (ap (λ b. (st b).holds) builder_is ∙ none)
          ∙ ap (λ (wanted : Wanted). host_view wanted whole.tree) wanted_is;
      stays_is = refl;
    }
