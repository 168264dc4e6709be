use Rattle.std.proofs.Common.{IsNone, IsTrue, ◌↔◌, ◌≡◌, false, rules, refl, ap, subst, ◌∙◌}
use Rattle.store_model.specs.Paths.{is_inside, is_at_or_inside, is_root}
use Rattle.entry_lines.proofs.ShownLines.{root_base, below_parent}
use Rattle.entry_lines.proofs.line.base_of.Goals as goal

pub returns-in-Some-clause-within : goal.returns-in-Some-clause-within
returns-in-Some-clause-within c =
    let apart : is_inside c.args.path.now c.args.top.now ≡ false = search rules in
    ap (is_at_or_inside c.args.path.now) c.in-Some.ensures.value
    ∙ below_parent c.args.path.now c.args.top.now c.requires apart

pub returns-in-None-clause-value : goal.returns-in-None-clause-value
returns-in-None-clause-value c =
    root_base c.args.path.now c.args.top.now
    ((subst (λ o. IsNone o ↔ IsTrue (is_root c.args.top.now)) c.in-None.is c.parent.ensures.none).0 refl)
