-- Slots that are the layout of a tree.
use Rattle.std.specs.Prelude.{◌≡◌, ℕ, List}
use Rattle.store_model.specs.Parameters.{Parameters}
use Rattle.store_model.specs.Trees.{Tree, IsTree}
use Rattle.store_model.specs.Draws.{draw_of}
use Rattle.store_model.specs.Pages.{Fits, pages}
use Rattle.store_model.specs.Placement.{Table, place}
use Rattle.store_model.specs.Images.{slots_of}

-- the table of a tree
abbrev pub table_of_tree : Tree → Parameters → Table
table_of_tree t p = place (draw_of p) (pages t p)

-- the slots are the layout of the tree, which is one and fits
pub record HaveLayout (slots : List (List ℕ)) (t : Tree) (p : Parameters) : Type 0 where
  pub tree : IsTree t
  pub fits : Fits t p
  pub slots_are : slots ≡ slots_of (table_of_tree t p)
