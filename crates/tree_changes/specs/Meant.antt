-- A tree that is told by what stands at each path.
use Rattle.std.specs.Prelude.{◌≡◌, [], Option}
use Rattle.std.specs.FinMap.{find}
use Rattle.store_model.specs.Paths.{Path, path_cmp}
use Rattle.store_model.specs.Trees.{Tree, Entry, IsTree}
use Rattle.store_model.specs.Trees.Node.{Directory}

-- what is to stand at each path: what stands there, with its attributes, or nothing
abbrev pub Standing : Type 0
Standing = Path → Option Entry

-- The tree has at each path just this. There is at most one such tree.
pub record HasJust (standing : Standing) (u : Tree) : Type 0 where
  pub is_tree : IsTree u
  pub each : (x : Path) → find path_cmp x u ≡ standing x

-- a directory without attributes
abbrev pub bare_directory : Entry
bare_directory = record { node = Directory; attributes = [] }
