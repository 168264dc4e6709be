-- What a check hands out of the layout of a tree.
use Rattle.std.specs.Prelude.{◌≡◌}
use Rattle.store_model.specs.Parameters.{Parameters, IsParameters}
use Rattle.store_model.specs.Trees.{Tree, IsTree}
use Rattle.store_model.specs.Pages.{Fits, page_count}
use Rattle.tree_pairs.specs.Counts.{AreCounts}
use Rattle.image_check.specs.declared.contents.Contents.{Contents}

-- how many pages the tree has, which is one and fits, and what it holds
pub record AreContents (t : Tree) (p : Parameters) (contents : Contents) : Type 0 where
  pub in_range : IsParameters p
  pub params_are : contents.params ≡ p
  pub tree : IsTree t
  pub fits : Fits t p
  pub used_is : contents.used ≡ page_count t p
  pub counts_are : AreCounts t contents.counts
