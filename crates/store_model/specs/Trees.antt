-- What a store holds: a finite map from paths to directories and files, each with its attributes.
use Rattle.std.specs.Prelude.{◌≡◌, ℕ, ◌≤◌, List, [], ◌∷◌, map, length, Bool, true, false, not, IsTrue, Option, Some}
use Rattle.std.specs.Prelude.{None, is_some, if◌then◌else◌}
use Rattle.std.specs.Ordering.{eq_by_cmp}
use Rattle.std.specs.FinMap.{find, put, is_sorted}
use Rattle.std.specs.List.{filter, AllByRecursion}
use Rattle.store_model.specs.Lists.{IsBytes}
use Rattle.store_model.specs.Paths.{Path, Name, is_root, is_path, is_attribute_name, fits_attribute, name_cmp, path_cmp}
use Rattle.store_model.specs.Paths.{same_path, parent, is_at_or_inside, replanted}

pub data Node : Type 0 where
  Directory : Node
  File : List ℕ → Node

-- the attributes of a path: a map from names to bytes, as its entries in the order of names
abbrev pub Attributes : Type 0
Attributes = List (Name × List ℕ)

-- what a tree has at a path: a directory or a file, and its attributes
pub record Entry : Type 0 where
  pub node : Node
  pub attributes : Attributes

-- a map from paths to what stands there, as its entries in the order of paths
abbrev pub Tree : Type 0
Tree = List (Path × Entry)

abbrev pub empty_tree : Tree
empty_tree = []

-- the most bytes of a file
abbrev pub file_limit : ℕ
file_limit = 16777216

-- the most bytes of an attribute
abbrev pub attribute_limit : ℕ
attribute_limit = 255

abbrev pub node_of : Option Entry → Option Node
node_of None = None
node_of (Some entry) = Some entry.node

abbrev pub attributes_of : Option Entry → Attributes
attributes_of None = []
attributes_of (Some entry) = entry.attributes

-- what stands at a path; the root is a directory
abbrev pub node_at : Tree → Path → Option Node
node_at t [] = Some Directory
node_at t (n ∷ p) = node_of (find path_cmp (n ∷ p) t)

-- the attributes of a path: none where nothing stands, and the root has none
abbrev pub attributes_at : Tree → Path → Attributes
attributes_at t p = attributes_of (find path_cmp p t)

-- the bytes of an attribute, if the path has it
abbrev pub attribute_at : Tree → Path → Name → Option (List ℕ)
attribute_at t p a = find name_cmp a (attributes_at t p)

abbrev pub is_directory_node : Option Node → Bool
is_directory_node None = false
is_directory_node (Some Directory) = true
is_directory_node (Some (File bytes)) = false

abbrev pub is_file_node : Option Node → Bool
is_file_node None = false
is_file_node (Some Directory) = false
is_file_node (Some (File bytes)) = true

abbrev pub contents_of : Option Node → List ℕ
contents_of None = []
contents_of (Some Directory) = []
contents_of (Some (File bytes)) = bytes

-- whether there is anything, a directory or a file at the path
abbrev pub exists : Tree → Path → Bool
exists t p = is_some (node_at t p)

abbrev pub is_directory : Tree → Path → Bool
is_directory t p = is_directory_node (node_at t p)

abbrev pub is_file : Tree → Path → Bool
is_file t p = is_file_node (node_at t p)

-- the bytes of the file at the path, and none where there is no file
abbrev pub contents : Tree → Path → List ℕ
contents t p = contents_of (node_at t p)

-- what may stand at a path: a directory, or a file of at most 16,777,216 bytes
abbrev pub IsNode : Node → Type 0
IsNode Directory = Unit {0}
IsNode (File bytes) = (length bytes ≤ file_limit) × IsBytes bytes

-- what an attribute of a path may be: a name of 1 to 32 bytes that the path's field has room for, and at most 255
-- bytes, which with the byte 4 fill a value
pub record IsAttribute (path : Path) (attribute : Name × List ℕ) : Type 0 where
  pub name : IsTrue (is_attribute_name attribute.0)
  pub fits : IsTrue (fits_attribute path attribute.0)
  pub short : length attribute.1 ≤ attribute_limit
  pub bytes : IsBytes attribute.1

-- the attributes of a path rise by name, so each name stands once, and each is one that the path may have
pub record AreAttributes (path : Path) (attributes : Attributes) : Type 0 where
  pub sorted : IsTrue (is_sorted name_cmp attributes)
  pub each : AllByRecursion (IsAttribute path) attributes

-- a path with what a tree has there: the path is not the root, and its parent is a directory
pub record IsEntry (t : Tree) (entry : Path × Entry) : Type 0 where
  pub path : IsTrue (is_path entry.0)
  pub below_root : is_root entry.0 ≡ false
  pub parent_directory : is_directory t (parent entry.0) ≡ true
  pub node : IsNode entry.1.node
  pub attributes : AreAttributes entry.0 entry.1.attributes

-- the entries rise by path, so each path stands once, and each is a tree's entry
pub record IsTree (t : Tree) : Type 0 where
  pub sorted : IsTrue (is_sorted path_cmp t)
  pub entries : AllByRecursion (IsEntry t) t

-- the entries whose parent is the path, in the order of names
unfoldable pub children : Tree → Path → List (Path × Entry)
children t p = filter (λ e. same_path (parent e.0) p) t

-- the tree with these entries, which have distinct paths
unfoldable pub tree_of : List (Path × Entry) → Tree
tree_of [] = []
tree_of (e ∷ entries) = put path_cmp e.0 e.1 (tree_of entries)

-- the tree with a node at a path, which keeps the attributes that it has; a path where nothing stood has none
abbrev pub with_node : Tree → Path → Node → Tree
with_node t p node = put path_cmp p (record { node = node; attributes = attributes_at t p }) t

-- the tree with these attributes for what stands at a path, if anything does
abbrev pub attributed : Tree → Path → Attributes → Option Entry → Tree
attributed t p attributes None = t
attributed t p attributes (Some entry) = put path_cmp p (record { node = entry.node; attributes = attributes }) t

abbrev pub with_attributes : Tree → Path → Attributes → Tree
with_attributes t p attributes = attributed t p attributes (find path_cmp p t)

-- attributes with one more, or with other bytes for one that is there
abbrev pub with_attribute : Attributes → Name → List ℕ → Attributes
with_attribute attributes a bytes = put name_cmp a bytes attributes

-- attributes without one
unfoldable pub without_attribute : Attributes → Name → Attributes
without_attribute attributes a = filter (λ b. not (eq_by_cmp name_cmp b.0 a)) attributes

-- the tree without the path
unfoldable pub without : Tree → Path → Tree
without t p = filter (λ e. not (same_path e.0 p)) t

-- the tree without the path and all below it
unfoldable pub without_subtree : Tree → Path → Tree
without_subtree t p = filter (λ e. not (is_at_or_inside e.0 p)) t

-- the path of the entry at p after a move of `from` to `to`
abbrev pub moved_path : Path → Path → Path → Path
moved_path from to p = if is_at_or_inside p from then replanted from to p else p

-- the tree in which each entry at from or below it stands at the path with to for from
unfoldable pub moved : Tree → Path → Path → Tree
moved t from to = tree_of (map (λ e. (moved_path from to e.0, e.1)) t)
