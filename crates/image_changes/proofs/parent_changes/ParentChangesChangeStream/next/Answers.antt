use Rattle.std.proofs.Common.{◌≤◌, ◌<◌, List, length, get_or, refl, sym, ap, subst, ◌∙◌, ltb-true}
use Rattle.store_model.specs.Paths.{Path}
use Rattle.image_changes.specs.Ways.{passing}
use Rattle.image_changes.proofs.ParentSteps.{gives_next, gives_at, gives_all, begins_next, ends_last}
use Rattle.image_changes.proofs.parent_changes.ParentChangesChangeStream.next.Goals as goal

pub loop-path-init : goal.loop-path-init
loop-path-init c = record { paths = refl; came = λ changes before. before }

pub returns-in-Some-clause-next : goal.returns-in-Some-clause-next
returns-in-Some-clause-next c = record {
  came = λ changes before. record {
    passed = gives_next c.args.self.now c.loop-path.self c.loop-path.invariant c.pass.new.self c.in-Some.path
        c.pass.ensures.path c.in-Some.ensures.leads changes before.passed;
    ends = ends_last changes (passing c.in-Some.path) c.pass.new.self.front
        (gives_at c.args.self.now c.loop-path.self c.loop-path.invariant c.pass.new.self c.in-Some.path
        c.in-Some.ensures.leads changes before.passed);
  };
  whole = λ changes before. tt;
  failed = λ changes before. tt;
}

pub returns-in_default-get-clause-next : goal.returns-in_default-get-clause-next
returns-in_default-get-clause-next c = record {
  came = λ changes before. tt;
  whole = λ changes before. gives_all c.args.self.now c.loop-path.self c.loop-path.invariant c.pass.new.self
      c.in_default.ensures.leads
      (subst (λ (xs : List Path). length xs ≤ c.loop-path.self.begun) c.deref.ensures.value
      c.in_default-get.ensures.lookup.3) changes before.passed;
  failed = λ changes before. tt;
}

pub loop-path-preserved : goal.loop-path-preserved
loop-path-preserved c =
    let found = c.in-Some-get.ensures.lookup in
    let path = c.in-Some-get.path.now in
    begins_next c.args.self.now c.loop-path.self c.loop-path.invariant c.pass.new.self c.to-self.result path
    c.in_default.ensures.leads
    (subst (λ (xs : List Path). c.loop-path.self.begun < length xs) c.deref.ensures.value
    (ltb-true _ _ (sym found.0)))
    (found.1 ∙ ap (λ (xs : List Path). get_or xs c.loop-path.self.begun path) c.deref.ensures.value)
    c.to-self.ensures.path c.to-self.ensures.front
