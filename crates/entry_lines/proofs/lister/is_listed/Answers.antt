use Rattle.std.proofs.Common.{IsNone, IsTrue, ◌↔◌, ◌≡◌, false, rules, refl, sym, ap, subst, ◌∙◌}
use Rattle.store_model.specs.Paths.{Path, same_path, is_root}
use Rattle.entry_lines.proofs.ShownLines.{child_within, not_listed}
use Rattle.entry_lines.proofs.lister.is_listed.Goals as goal

pub returns-in-Some-clause-within : goal.returns-in-Some-clause-within
returns-in-Some-clause-within c = λ is.
    child_within c.args.facts.now.path c.args.top.now
    (ap (λ (q : Path). same_path q c.args.top.now) (sym c.in-Some.ensures.value)
    ∙ sym c.is_same_path-in-Some.ensures ∙ is)

pub returns-in-None-clause-value : goal.returns-in-None-clause-value
returns-in-None-clause-value c =
    let other : same_path c.args.facts.now.path c.args.top.now ≡ false = search rules in
    let near : c.args.form.is_below ≡ false = search rules in
    not_listed c.args.form c.args.top.now c.args.facts.now other near
    ((subst (λ o. IsNone o ↔ IsTrue (is_root c.args.facts.now.path)) c.in-None.is c.parent.ensures.none).0 refl)
