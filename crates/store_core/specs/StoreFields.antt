-- What the fields of a store mean: the known tree, and the list of its pairs over staged pages.
use Rattle.std.specs.Prelude.{◌≡◌}
use Rattle.disk_model.specs.DiskState.{DiskState}
use Rattle.store_core.specs.Known.{KnownState}
use Rattle.staged_tree.specs.StagedTree.{TreeList, IsListAt}

-- The list is that of the known tree, which fits, and its disk tells its bytes where it did when it was last settled.
pub record HoldsKnown {D : Type 0} (state : D → DiskState) (known : KnownState D) (list : TreeList D) : Type 0 where
  pub at : IsListAt state known.tree known.params list
  pub observable : (state list.pages.disk).is_observable ≡ (state known.settled).is_observable
