use Rattle.std.proofs.Common.{◌++◌, ℕ, List, length, ap₂, ◌∙◌}
use Rattle.std.proofs.lemmas.List.{drop-replicate}
use Rattle.tests_layers.proofs.tests.samples.key.Goals as goal

pub returns-clause-value : goal.returns-clause-value
returns-clause-value c = c.new.ensures.value
    ∙ ap₂ (λ (xs ys : List ℕ). xs ++ ys) c.copy_from_slice.ensures.after
    (drop-replicate (length c.args.front.now) 124 0)
