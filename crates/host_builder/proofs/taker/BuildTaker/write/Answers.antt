use Rattle.std.proofs.Common.{◌≡◌, ℕ, ◌==◌, ◌&&◌, Bool, false, length, refl, sym, ap, ◌∙◌, arith}
use Rattle.std.proofs.lemmas.Bool.{ne_eqb}
use Rattle.host_builder.specs.declared.plan.Made.TheVariants as made
use Rattle.host_builder.proofs.TakerSteps.{puts_took}
use Rattle.host_builder.proofs.taker.BuildTaker.write.Goals as goal
use Rattle.host_builder.proofs.taker.BuildTaker.write.Goals.{then-at-eq0, else-at-eq0}

pub returns-clause-took : goal.returns-clause-took
returns-clause-took g c =
    let st = g.B.Builder.state in
    let empty : c.if-at-eq0.self ≡ (c.args.at == 0 && length c.args.bytes.now == 0) =
    elim c.if-at-eq0.branch [
      | then-at-eq0 w ↦ w.self-is ∙ w.is_empty.ensures
          ∙ sym (ap (λ (n : ℕ). n == 0 && length c.args.bytes.now == 0) w.if-at-eq0.true)
      | else-at-eq0 w ↦
          let other : (c.args.at == 0) ≡ false = grind (arith, w.if-at-eq0.false) in
          w.self-is ∙ ne_eqb c.args.at 0 w.if-at-eq0.false
          ∙ sym (ap (λ (b : Bool). b && length c.args.bytes.now == 0) other)
    ] in
    puts_took (st c.args.self.now.builder) (st c.put.new.self.builder) c.args.self.now.plan c.put.new.self.plan _
    c.args.path.now c.args.at c.args.bytes.now c.in_ok-put.ensures.put refl refl refl refl
    (ap (made.File c.args.path.now) empty)
