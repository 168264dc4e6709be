-- The places of a tree, in their order: the pairs that each has, and the steps of a dump that make it.
use Rattle.std.specs.Prelude.{◌≡◌, ℕ, length, Bool, true, false, IsTrue, List, [], ◌∷◌, map}
use Rattle.std.specs.List.{flat_map}
use Rattle.store_model.specs.declared.version.Version.{Version}
use Rattle.store_model.specs.Parameters.{Parameters}
use Rattle.store_model.specs.Paths.{Path, Name, is_root, is_path, attribute_key, key}
use Rattle.store_model.specs.Trees.{Tree, Node, Entry, IsNode, IsAttribute}
use Rattle.store_model.specs.Trees.Node.{Directory, File}
use Rattle.store_model.specs.Pairs.{Pair, is_inline, directory_value, attribute_value}
use Rattle.tree_pairs.specs.Kinds.{file_first}
use Rattle.dump_streams.specs.Dumps.{DumpStep, node_steps}
use Rattle.dump_streams.specs.Dumps.DumpStep.{Set}
use Rattle.dump_streams.specs.Listed.{blocks_from}

-- what a tree has at one place: what stands at a path, or an attribute of a path
pub data Spot : Type 0 where
  Stands : Path → Node → Spot
  Has : Path → Name → List ℕ → Spot

-- the places of an entry, in their order
abbrev pub entry_spots : Path → Entry → List Spot
entry_spots path entry = Stands path entry.node ∷ map (λ a. Has path a.0 a.1) entry.attributes

-- those of a tree
unfoldable pub spots : Tree → List Spot
spots t = flat_map (λ e. entry_spots e.0 e.1) t

-- the value of the first pair of what stands at a path
abbrev pub node_value : Version → Node → List ℕ
node_value version Directory = directory_value
node_value version (File bytes) = file_first (is_inline version (length bytes)) bytes

-- the first pair of a place
abbrev pub first_pair : Parameters → Spot → Pair
first_pair p (Stands path node) = (key path 0, node_value p.version node)
first_pair p (Has path name bytes) = (attribute_key path name, attribute_value bytes)

-- those behind it: the blocks of a file that does not stand in its first pair
abbrev pub file_blocks : Bool → Path → List ℕ → List Pair
file_blocks true path bytes = []
file_blocks false path bytes = blocks_from path 1 bytes

abbrev pub later_pairs : Parameters → Spot → List Pair
later_pairs p (Stands path Directory) = []
later_pairs p (Stands path (File bytes)) = file_blocks (is_inline p.version (length bytes)) path bytes
later_pairs p (Has path name bytes) = []

-- all of them, and the steps that make what stands there
abbrev pub spot_pairs : Parameters → Spot → List Pair
spot_pairs p spot = first_pair p spot ∷ later_pairs p spot

abbrev pub spot_steps : Spot → List DumpStep
spot_steps (Stands path node) = node_steps path node
spot_steps (Has path name bytes) = Set path name bytes ∷ []

-- what may stand at a path
pub record MayStand (path : Path) (node : Node) : Type 0 where
  pub path_valid : IsTrue (is_path path)
  pub below_root : is_root path ≡ false
  pub valid : IsNode node

-- an attribute that a path may have
pub record MayHave (path : Path) (name : Name) (bytes : List ℕ) : Type 0 where
  pub path_valid : IsTrue (is_path path)
  pub below_root : is_root path ≡ false
  pub valid : IsAttribute path (name, bytes)

abbrev pub IsSpot : Spot → Type 0
IsSpot (Stands path node) = MayStand path node
IsSpot (Has path name bytes) = MayHave path name bytes
