use Rattle.std.proofs.Common.{◌+◌, ◌∷◌, ℕ, List, take, sym, ap, ◌∙◌, Some, None}
use Rattle.std.proofs.lemmas.List.{take_rest}
use Rattle.script_lines.specs.Parsing.{parts_of}
use Rattle.script_lines.proofs.FieldLemmas.{parts-position}
use Rattle.script_lines.proofs.fields.cut_field.Goals as goal

pub returns-in-Some-clause-parts : goal.returns-in-Some-clause-parts
returns-in-Some-clause-parts c =
    let text = c.args.text.now in
    let place : ℕ = c.in-Some.place in
    parts-position text (Some place) c.in-Some.ensures
    ∙ ap (λ (rest : List ℕ). take place text ∷ parts_of rest) (sym (take_rest text (place + 1)))

pub returns-in-None-clause-parts : goal.returns-in-None-clause-parts
returns-in-None-clause-parts c = parts-position c.args.text.now None c.in-None.ensures
