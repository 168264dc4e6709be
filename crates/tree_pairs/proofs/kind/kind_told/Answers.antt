use Rattle.std.proofs.Common.{ℕ, List, subst, sym, ◌∙◌}
use Rattle.tree_pairs.specs.Kinds.{Says}
use Rattle.tree_pairs.proofs.KindLemmas.{kind_of_some}
use Rattle.tree_pairs.proofs.kind.kind_told.Goals as goal

pub returns-in-Some : goal.returns-in-Some
returns-in-Some c = λ o version short is.
    kind_of_some o version c.in-Some.value c.kind_in.result short (sym c.in-Some.is ∙ is)
    (λ kind range says. c.kind_in.ensures.only kind range
    (subst (λ (v : List ℕ). Says v kind) (sym c.as_slice.ensures.value) says))
