use Rattle.std.proofs.Common.{◌≡◌, Bool, true, false, refl, Option, sym, ap, ◌∙◌}
use Rattle.store_model.specs.Paths.{Path, same_path}
use Rattle.store_model.proofs.TreesLemmasPaths.{same_from_test, same_path-from_equal}
use Rattle.dump_streams.specs.Dumps.{step_path}
use Rattle.dump_diff.specs.Keeping.{is_of_last}
use Rattle.dump_diff.proofs.keeping.Keeping.is_of_last.Goals as goal

decided : (a b : Bool) → (a ≡ true → b ≡ true) → (b ≡ true → a ≡ true) → a ≡ b
decided true b f g = sym (f refl)
decided false true f g = g refl
decided false false f g = refl

pub returns-in-Some : goal.returns-in-Some
returns-in-Some c =
    let p : Path = c.in-Some.path in
    let q : Path = step_path c.args.step.now in
    decided c.eq.result (same_path p q)
    (λ h. same_path-from_equal p q (c.eq.ensures.same.0 h ∙ c.path.ensures))
    (λ h. c.eq.ensures.same.1 (same_from_test p q h ∙ sym c.path.ensures))
    ∙ ap (λ (o : Option Path). is_of_last o c.args.step.now) (sym c.in-Some.is)
