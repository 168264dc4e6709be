use Rattle.std.proofs.Common.{◌+◌, ap, ap₂, sym, ◌∙◌, is_none, take}
use Rattle.std.specs.Option.{option_map, option_or}
use Rattle.std.specs.List.{position}
use Rattle.layout_scratch.proofs.FirstFree.{first_free_in_parts}
use Rattle.layout_scratch.proofs.place.first_free.Goals as goal

pub returns-in-Some-clause-value : goal.returns-in-Some-clause-value
returns-in-Some-clause-value c = λ pages all.
    let behind = sym c.in-Some.is ∙ c.first_none.ensures ∙ ap (position is_none) c.split_at.ensures.back in
    sym (first_free_in_parts pages c.args.places.now c.args.start all c.requires
    ∙ ap (λ o. option_or (option_map (λ i. c.args.start + i) o)
    (position is_none (take c.args.start c.args.places.now))) (sym behind))

pub returns-in-None-clause-value : goal.returns-in-None-clause-value
returns-in-None-clause-value c = λ pages all.
    let behind = sym c.in-None.is ∙ c.first_none.ensures ∙ ap (position is_none) c.split_at.ensures.back in
    let before = c.first_none-in-None.ensures ∙ ap (position is_none) c.split_at.ensures.front in
    sym (first_free_in_parts pages c.args.places.now c.args.start all c.requires
    ∙ ap₂ (λ o p. option_or (option_map (λ i. c.args.start + i) o) p) (sym behind) (sym before))
