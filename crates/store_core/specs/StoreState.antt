-- A store, seen as one record.
use Rattle.std.specs.Prelude.{Bool}
use Rattle.store_model.specs.Parameters.{Parameters}
use Rattle.store_model.specs.Trees.{Tree}

-- A store at one moment: what its image is made with, the tree, the disk, and whether it is stopped.
pub record StoreState (D : Type 0) : Type 0 where
  pub params : Parameters
  pub tree : Tree
  pub disk : D
  pub is_stopped : Bool
