use Rattle.std.proofs.Common.{ℕ, ◌+◌, Bool, Ok, sym, subst, arith}
use Rattle.std.proofs.lemmas.Bool.{eqb-true, eq-eqb}
use Rattle.store_model.specs.Labels.Lead.{Start}
use Rattle.table_walk.specs.Costs.{KeepsTo}
use Rattle.table_walk.specs.Streams.{progress}
use Rattle.table_walk.specs.Walks.{WalksGroup}
use Rattle.table_walk.proofs.TableSteps.{levels_begin, levels_next, levels_refuted, levels_done}
use Rattle.table_walk.proofs.StepLemmas.{keeps_first, levels_keep, levels_within}
use Rattle.table_walk.proofs.walk.walk_groups.Goals as goal

pub loop-level-init : goal.loop-level-init
loop-level-init g c = (
  levels_begin (g.W.Draw.drawn c.args.draw.now) _
      c.args.used (progress c.none_of-met.result.left c.none_of-met.result.last) _
      c.none_of-met.ensures.left c.none_of-met.ensures.last,
  g.met.S.ReadSlots.follows_refl c.args.slots.now,
  g.met.P.TakesPairs.keeps_refl c.args.sink.now,
  subst (λ (n : ℕ). KeepsTo c.args.entries.now c.args.steps.now c.args.steps.now c.args.used n 0)
      (sym c.none_of-met.ensures.left) (keeps_first c.args.entries.now c.args.steps.now c.args.used),
)

pub returns-then-not-branch-clause-call : goal.returns-then-not-branch-clause-call
returns-then-not-branch-clause-call g c =
    let d = g.W.Draw.drawn c.args.draw.now in
    let now = g.S.ReadSlots.state c.loop-level.slots in
    let new = g.S.ReadSlots.state c.walk_group.new.slots in
    levels_refuted d (g.met.W.Draw.lawful c.args.draw.now)
    (g.S.ReadSlots.state c.args.slots.now) now
    c.loop-level.level c.args.used (progress c.loop-level.met.left c.loop-level.met.last)
    (g.P.TakesPairs.took c.args.sink.now) (g.P.TakesPairs.took c.loop-level.sink) c.loop-level.invariant.0 new
    (progress c.walk_group.new.met.left c.walk_group.new.met.last) (g.P.TakesPairs.took c.walk_group.new.sink)
    (subst (λ (b : Bool). WalksGroup d now new c.loop-level.level Start
    (progress c.loop-level.met.left c.loop-level.met.last)
    (progress c.walk_group.new.met.left c.walk_group.new.met.last) (g.P.TakesPairs.took c.loop-level.sink)
    (g.P.TakesPairs.took c.walk_group.new.sink) (Ok b)) c.if-not-branch.true c.in_ok-walk_group.ensures.call)

pub loop-level-preserved : goal.loop-level-preserved
loop-level-preserved g c =
    let d = g.W.Draw.drawn c.args.draw.now in
    let now = g.S.ReadSlots.state c.loop-level.slots in
    let new = g.S.ReadSlots.state c.walk_group.new.slots in (
      levels_next d (g.S.ReadSlots.state c.args.slots.now) now new
          c.loop-level.level c.args.used (progress c.loop-level.met.left c.loop-level.met.last)
          (progress c.walk_group.new.met.left c.walk_group.new.met.last)
          (g.P.TakesPairs.took c.args.sink.now) (g.P.TakesPairs.took c.loop-level.sink)
          (g.P.TakesPairs.took c.walk_group.new.sink) c.loop-level.invariant.0
          (subst (λ (b : Bool). WalksGroup d now new c.loop-level.level Start
          (progress c.loop-level.met.left c.loop-level.met.last)
          (progress c.walk_group.new.met.left c.walk_group.new.met.last) (g.P.TakesPairs.took c.loop-level.sink)
          (g.P.TakesPairs.took c.walk_group.new.sink) (Ok b))
          c.if-not-branch.false c.in_ok-walk_group.ensures.call),
      g.met.S.ReadSlots.follows_trans c.args.slots.now c.loop-level.slots c.walk_group.new.slots
          c.loop-level.invariant.1 c.in_ok-walk_group.ensures.follows,
      g.met.P.TakesPairs.keeps_trans c.args.sink.now c.loop-level.sink c.walk_group.new.sink c.loop-level.invariant.2
          c.in_ok-walk_group.ensures.keeps,
      levels_keep c.args.entries.now c.args.steps.now c.loop-level.steps c.walk_group.new.steps c.args.used
          c.loop-level.met.left c.walk_group.new.met.left c.loop-level.level c.loop-level.invariant.3
          c.in_ok-walk_group.ensures.steps.most,
    )

pub returns-clause-call : goal.returns-clause-call
returns-clause-call g c =
    levels_done (g.W.Draw.drawn c.args.draw.now) (g.met.W.Draw.lawful c.args.draw.now) _ _
    c.loop-level.level c.args.used (progress c.loop-level.met.left c.loop-level.met.last) _ _
    c.loop-level.invariant.0 _
    (omega (arith, c.loop-level-test.false, c.loop-level.auto.level-end, c.height-level-end.ensures))
    (eqb-true c.loop-level.met.left 0, eq-eqb c.loop-level.met.left 0)

pub returns-in_err-walk_group-clause-steps : goal.returns-in_err-walk_group-clause-steps
returns-in_err-walk_group-clause-steps g c =
    levels_within c.args.entries.now c.args.steps.now c.walk_group.new.steps c.args.used c.walk_group.new.met.left
    (c.loop-level.level + 1) (g.W.Draw.drawn c.args.draw.now).height
    (levels_keep c.args.entries.now c.args.steps.now c.loop-level.steps c.walk_group.new.steps c.args.used
    c.loop-level.met.left c.walk_group.new.met.left c.loop-level.level c.loop-level.invariant.3
    c.in_err-walk_group.ensures.steps.most)
    (omega (arith, c.loop-level-test.true, c.loop-level.auto.level-end, c.height-level-end.ensures))

pub returns-then-not-branch-clause-steps : goal.returns-then-not-branch-clause-steps
returns-then-not-branch-clause-steps g c =
    levels_within c.args.entries.now c.args.steps.now c.walk_group.new.steps c.args.used c.walk_group.new.met.left
    (c.loop-level.level + 1) (g.W.Draw.drawn c.args.draw.now).height
    (levels_keep c.args.entries.now c.args.steps.now c.loop-level.steps c.walk_group.new.steps c.args.used
    c.loop-level.met.left c.walk_group.new.met.left c.loop-level.level c.loop-level.invariant.3
    c.in_ok-walk_group.ensures.steps.most)
    (omega (arith, c.loop-level-test.true, c.loop-level.auto.level-end, c.height-level-end.ensures))

pub returns-clause-steps : goal.returns-clause-steps
returns-clause-steps g c =
    levels_within c.args.entries.now c.args.steps.now c.loop-level.steps c.args.used c.loop-level.met.left
    c.loop-level.level (g.W.Draw.drawn c.args.draw.now).height c.loop-level.invariant.3
    (omega (arith, c.loop-level-test.false, c.loop-level.auto.level-end, c.height-level-end.ensures))
