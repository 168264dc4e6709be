use Rattle.std.proofs.Common.{◌≡◌, ◌-◌, List, length, slice_get, Some, true, sym, subst}
use Rattle.host_builder.specs.declared.plan.Standing.{Standing}
use Rattle.host_builder.proofs.Attributes.{same_here}
use Rattle.host_builder.proofs.TakerSteps.{last_noted}
use Rattle.host_builder.proofs.plan.Plan.is_last.Goals as goal

pub returns-in-Some : goal.returns-in-Some
returns-in-Some c = λ is. last_noted c.args.self.now.stands.items (length c.args.self.now.stands.items - 1)
    c.in-Some.one.now c.args.path.now
    (subst (λ (xs : List Standing). slice_get xs (length xs - 1) ≡ Some c.in-Some.one.now) c.deref.ensures.value
    (sym c.in-Some.ensures.value))
    (same_here c.in-Some.one.now.path c.args.path.now c.eq.result true c.eq.ensures.value is)
