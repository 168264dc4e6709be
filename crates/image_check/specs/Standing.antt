-- Trees that fit, and disks that read their layouts.
use Rattle.std.specs.Prelude.{◌≡◌}
use Rattle.store_model.specs.Parameters.{Parameters, IsParameters}
use Rattle.store_model.specs.Trees.{Tree, IsTree}
use Rattle.store_model.specs.Pages.{Fits}
use Rattle.store_model.specs.Images.{layout, Represents}
use Rattle.disk_model.specs.DiskState.{DiskState, IsDurable}

-- a tree whose pages are no more than the slots, under parameters in their range
pub record IsFitting (t : Tree) (p : Parameters) : Type 0 where
  pub in_range : IsParameters p
  pub tree : IsTree t
  pub fits : Fits t p

-- the disk reads as the layout of the tree, and a crash leaves exactly that
pub record Stands (disk : DiskState) (t : Tree) (p : Parameters) : Type 0 where
  pub layout_is : disk.bytes ≡ layout t p
  pub durable : IsDurable disk

-- the disk reads as an image of some tree
pub record RepresentsSome (disk : DiskState) : Type 0 where
  pub tree : Tree
  pub params : Parameters
  pub represents : Represents disk.bytes tree params
