-- A tree's pairs as a function of place and block.
use Rattle.std.proofs.Common.{ℕ, zero, suc, List, [], ◌∷◌, ◌==◌, length, Bool, true, false, cond, Option, Some, None}
use Rattle.std.specs.Option.{option_map, option_or}
use Rattle.std.specs.FinMap.{find}
use Rattle.store_model.specs.declared.version.Version.{Version}
use Rattle.store_model.specs.Lists.{run_at}
use Rattle.store_model.specs.Parameters.{Parameters}
use Rattle.store_model.specs.Paths.{Name, attribute_mark, name_cmp, path_cmp, parent, last_name}
use Rattle.store_model.specs.Pairs.{file_block, directory_value, file_value, inline_value, is_inline, attribute_value}
use Rattle.store_model.specs.Trees.{Tree, Node, Attributes, node_of, attributes_at}
use Rattle.store_model.specs.Trees.Node.{Directory, File}
use Rattle.tree_pairs.specs.Blocks.{BlockMap, run_value}

-- the value of a block of a file: block 0 has its bytes, or it has their number and the blocks behind it have them
abbrev pub file_block_value : Bool → List ℕ → ℕ → Option (List ℕ)
file_block_value true bytes zero = Some (inline_value bytes)
file_block_value true bytes (suc i) = None
file_block_value false bytes zero = Some (file_value (length bytes))
file_block_value false bytes (suc i) = run_value (run_at file_block bytes i)

-- the value of a block of what stands at a path: block 0 says what it is
abbrev pub block_value : Option Node → Version → ℕ → Option (List ℕ)
block_value None version block = None
block_value (Some Directory) version zero = Some directory_value
block_value (Some Directory) version (suc i) = None
block_value (Some (File bytes)) version block = file_block_value (is_inline version (length bytes)) bytes block

-- the value of a block where attributes stand, by the last name of the place: block 0 has the bytes of the attribute
-- that is named behind the mark
abbrev pub attribute_block : Attributes → Name → ℕ → Option (List ℕ)
attribute_block attributes [] block = None
attribute_block attributes (c ∷ a) zero =
    cond (c == attribute_mark) (option_map attribute_value (find name_cmp a attributes)) None
attribute_block attributes (c ∷ a) (suc i) = None

-- the blocks that a tree has under a version: those of what stands at a path, and those of its attributes
abbrev pub version_blocks : Tree → Version → BlockMap
version_blocks t version place block =
    option_or (block_value (node_of (find path_cmp place t)) version block)
    (attribute_block (attributes_at t (parent place)) (last_name place) block)

-- the blocks of a tree
abbrev pub tree_blocks : Tree → Parameters → BlockMap
tree_blocks t p place block = version_blocks t p.version place block
