-- Fronts of dumps, and what `run` makes of a listing.
use Rattle.std.specs.Prelude.{◌≡◌, ℕ, List, take}
use Rattle.std.specs.List.{AllByRecursion}
use Rattle.store_model.specs.Parameters.{Parameters}
use Rattle.store_model.specs.Trees.{Tree, empty_tree}
use Rattle.store_model.specs.Pages.{Fits, IsTreeUnder}
use Rattle.store_model.specs.Commands.Reply.{Acknowledged}
use Rattle.store_model.specs.Scripts.{lines, replies, tree_after}
use Rattle.dump_streams.specs.Dumps.{DumpStep, dump}

-- The steps are the dump of a tree that an image with these parameters may hold.
pub record HasDump (steps : List DumpStep) (p : Parameters) : Type 0 where
  pub tree : Tree
  pub under : IsTreeUnder tree p
  pub dump_is : dump tree ≡ steps

-- On the empty tree each line of the script is answered `ok`, each tree on the way fits, and the last one is this.
pub record RunsListing (t : Tree) (p : Parameters) (script : List ℕ) : Type 0 where
  pub acknowledged : AllByRecursion (λ reply. reply ≡ Acknowledged) (replies empty_tree (lines script) p)
  pub fits : (count : ℕ) → Fits (tree_after empty_tree (take count (lines script)) p) p
  pub tree : tree_after empty_tree (lines script) p ≡ t
