use Rattle.std.proofs.Common.{◌≡◌, ℕ, List, Option, Some, ap, sym, ◌∙◌}
use Rattle.host_builder.specs.declared.attribute.HostAttribute.{HostAttribute}
use Rattle.host_builder.specs.HostAttributes.{attribute_of}
use Rattle.host_builder.specs.Turns.{set_turn}
use Rattle.host_builder.proofs.TakerSteps.{turned_took}
use Rattle.host_builder.proofs.taker.BuildTaker.set.Goals as goal

pub returns-clause-took : goal.returns-clause-took
returns-clause-took g c =
    let st = g.B.Builder.state in
    let plan = c.args.self.now.plan in
    let told : Some c.in-Some.attribute ≡ attribute_of c.args.name.now c.args.bytes.now =
    c.in-Some.ensures.value
    ∙ ap (λ (name : List ℕ). attribute_of name c.args.bytes.now) c.as_bytes.ensures.value in
    turned_took (st c.args.self.now.builder) (st c.set_in_turn.new.self.builder) plan c.move_on-2.new.self
    c.args.path.now c.args.name.now c.args.bytes.now c.set_in_turn.new.self.plan c.turn_of-turn.result
    c.in_ok-set_in_turn.ensures.turned
    (c.turn_of-turn.ensures
    ∙ ap (λ (o : Option HostAttribute). set_turn plan.wanted plan.made c.args.path.now o) told)
    c.move_on-2.ensures.wanted c.move_on-2.ensures.obstacle c.move_on-2.ensures.later c.move_on-2.ensures.stands
    c.move_on-2.ensures.made
