-- What is left of what was removed.
use Rattle.std.specs.Prelude.{◌≡◌, ◌≤◌, ℕ, true, false, Ok, List, [], ◌∷◌, ◌++◌, length}
use Rattle.std.specs.List.{AllByRecursion}
use Rattle.store_model.specs.Parameters.{Parameters}
use Rattle.store_model.specs.Paths.{Path}
use Rattle.store_model.specs.Trees.{Tree, exists}
use Rattle.store_model.specs.Commands.Command.{Prune}
use Rattle.store_model.specs.Grammar.{parse}
use Rattle.store_model.specs.Scripts.{lines, line_limit, tree_after}
use Rattle.model_laws.specs.Within.{stays_within}

-- Of two scripts the first leaves nothing at the path, and the second works at the path and below it alone, and
-- prunes it at last.
pub record RemovesAt (at : Path) (t : Tree) (p : Parameters) (first second : List ℕ) : Type 0 where
  pub nothing_there : exists (tree_after t (lines first) p) at ≡ false
  pub texts : List (List ℕ)
  pub prune : List ℕ
  pub lines_are : lines second ≡ texts ++ prune ∷ []
  pub within : AllByRecursion (λ text. stays_within at text ≡ true) texts
  pub fits : length prune ≤ line_limit
  pub prunes : parse prune ≡ Ok (Prune at)
