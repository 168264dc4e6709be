use Rattle.std.proofs.Common.{◌≡◌, [], List, sym, subst, ◌∙◌, arith}
use Rattle.std.proofs.lemmas.List.{nil_from_length}
use Rattle.host_builder.specs.declared.plan.Standing.{Standing}
use Rattle.host_builder.specs.Takes.{TakesAway}
use Rattle.host_builder.proofs.TakenAway.{TakesPart, went, root_went, root_stayed}
use Rattle.host_builder.proofs.undoing.take_away.Goals as goal
use Rattle.host_builder.proofs.undoing.take_away.Goals.{then-not-remove_root, else-not-remove_root}

pub loop-one-preserved : goal.loop-one-preserved
loop-one-preserved g c =
    let st = g.B.Builder.state in
    went (st c.args.builder.now) (st c.loop-one.builder) (st c.remove.new.builder) c.args.stands.items
    c.pop.new.self.items c.in-Some.one c.loop-one.stays c.loop-one.stays
    (subst (λ (left : List Standing). TakesPart (st c.args.builder.now) (st c.loop-one.builder) c.args.stands.items left
    c.loop-one.stays) c.in-Some.ensures.items c.loop-one.invariant) c.if-not-remove.ensures

pub returns : goal.returns
returns g c =
    let st = g.B.Builder.state in
    let empty : c.loop-one.stands.items ≡ [] = nil_from_length c.loop-one.stands.items
    (omega (arith, c.loop-one.stands.ok, c.in_default.ensures.cases.0)) in
    elim c.if-not-remove_root.branch [
      | then-not-remove_root w ↦
          root_stayed (st c.args.builder.now) (st c.loop-one.builder) (st c.remove_root.new.self) c.args.stands.items
          c.loop-one.stands.items c.loop-one.stays c.if-not-remove_root.stays c.loop-one.invariant empty
          (w.stays-is ∙ w.saturating_add-stays-then-not-remove_root.ensures) w.if-not-remove_root.ensures
      | else-not-remove_root w ↦
          subst (TakesAway (st c.args.builder.now) (st c.remove_root.new.self) c.args.stands.items) (sym w.stays-is)
          (root_went (st c.args.builder.now) (st c.loop-one.builder) (st c.remove_root.new.self) c.args.stands.items
          c.loop-one.stands.items c.loop-one.stays c.loop-one.stays c.loop-one.invariant empty
          w.if-not-remove_root.ensures)
    ]
