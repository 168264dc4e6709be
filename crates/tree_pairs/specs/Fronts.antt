-- Lists of pairs, and those of trees.
use Rattle.std.specs.Prelude.{◌≡◌, ℕ, IsTrue, List, ◌++◌, map, false}
use Rattle.std.specs.List.{enumerate_from}
use Rattle.store_model.specs.Lists.{runs}
use Rattle.store_model.specs.declared.version.Version.{Version}
use Rattle.store_model.specs.Parameters.{Parameters}
use Rattle.store_model.specs.Paths.{Path, Name, is_path, is_root, is_attribute_name, fits_attribute, key}
use Rattle.store_model.specs.Pairs.{Pair, file_block, has_attributes, pairs}
use Rattle.store_model.specs.Pages.{IsBare}
use Rattle.store_model.specs.Trees.{Tree, IsTree}
use Rattle.tree_pairs.specs.declared.kind.Kind.{Kind}
use Rattle.tree_pairs.specs.Kinds.{IsKind, IsValueOf}

-- the pairs are those of a tree, which has no attributes where the version has none
pub record AreOfTree (s : List Pair) (p : Parameters) : Type 0 where
  pub tree : Tree
  pub is_tree : IsTree tree
  pub bare : has_attributes p.version ≡ false → IsBare tree
  pub pairs_are : s ≡ pairs tree p

-- the pairs are the first of those of such a tree, or all of them
pub record BeginTree (s : List Pair) (p : Parameters) : Type 0 where
  pub tree : Tree
  pub is_tree : IsTree tree
  pub bare : has_attributes p.version ≡ false → IsBare tree
  pub rest : List Pair
  pub pairs_are : pairs tree p ≡ s ++ rest

-- the key and the value are those of the first pair of a path under a version
pub record IsFirst (version : Version) (path : Path) (kind : Kind) (key_bytes value : List ℕ) : Type 0 where
  pub path_is : IsTrue (is_path path)
  pub below_root : is_root path ≡ false
  pub kind_is : IsKind kind
  pub key_is : key_bytes ≡ key path 0
  pub value_is : IsValueOf version kind value

-- a path other than the root may have an attribute with this name
pub record MayHaveAttribute (path : Path) (name : Name) : Type 0 where
  pub path_is : IsTrue (is_path path)
  pub below_root : is_root path ≡ false
  pub name_is : IsTrue (is_attribute_name name)
  pub fits : IsTrue (fits_attribute path name)

-- the pairs of the blocks of a file
abbrev pub block_pairs : Path → List ℕ → List Pair
block_pairs path bytes = map (λ b. (key path b.0, b.1)) (enumerate_from 1 (runs file_block bytes))
