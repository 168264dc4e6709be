use Rattle.std.proofs.Common.{◌+◌, ◌==◌, ◌∷◌, ℕ, List, take, sym, ap, ◌∙◌}
use Rattle.std.specs.List.{slice_split}
use Rattle.std.proofs.lemmas.List.{take_rest}
use Rattle.box_words.proofs.PathWords.{between_more, between_last}
use Rattle.box_words.proofs.CutNames.{first_cut, none_cut}
use Rattle.box_words.proofs.cutting.cut_part.Goals as goal

pub returns-in-Some-clause-parts : goal.returns-in-Some-clause-parts
returns-in-Some-clause-parts c =
    let text = c.args.text.now in
    let separator = c.args.separator in
    let place : ℕ = c.in-Some.place in
    between_more separator text (take place text) _ (first_cut separator text place c.in-Some.ensures
    ∙ ap (λ (rest : List ℕ). take place text ∷ slice_split (λ b. b == separator) rest)
    (sym (take_rest text (place + 1))))

pub returns-in-None-clause-parts : goal.returns-in-None-clause-parts
returns-in-None-clause-parts c =
    between_last c.args.separator c.args.text.now (none_cut c.args.separator c.args.text.now c.in-None.ensures)
