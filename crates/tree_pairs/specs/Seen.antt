-- Which pairs a reader has seen: what its fields say of them. A caller needs no more of this than that a new reader has
-- seen nothing, and one that took a pair has seen it behind the others.
use Rattle.std.specs.Prelude.{◌≡◌, ℕ, ◌+◌, ◌-◌, ◌*◌, ◌/◌, ◌<◌, ◌≤◌, min, IsTrue, List, ◌∷◌, ◌++◌, length, [], Option}
use Rattle.std.specs.Prelude.{Some, None, cond, true, false, ◌⊎◌}
use Rattle.std.specs.List.{AllByRecursion}
use Rattle.std.specs.Ordering.{is_le}
use Rattle.std.specs.declared.cmp.Ordering.TheVariants.{Less}
use Rattle.store_model.specs.declared.version.Version.{Version}
use Rattle.store_model.specs.Lists.{IsBytes}
use Rattle.store_model.specs.Parameters.{Parameters}
use Rattle.store_model.specs.Paths.{Path, Name, is_path, is_root, is_inside, name_cmp, path_cmp, parent, key}
use Rattle.store_model.specs.Pairs.{Pair, file_block, file_value, is_inline, has_attributes, pairs}
use Rattle.store_model.specs.Pages.{IsBare}
use Rattle.store_model.specs.Trees.{Tree, Node, Entry, Attributes, IsTree, node_at, attributes_at, is_directory}
use Rattle.store_model.specs.Trees.{file_limit}
use Rattle.store_model.specs.Trees.Node.{File}
use Rattle.tree_pairs.specs.declared.kind.Kind.{Kind}
use Rattle.tree_pairs.specs.declared.kind.Kind.TheVariants as kinds
use Rattle.tree_pairs.specs.Kinds.{kind_of_node}
use Rattle.tree_pairs.specs.declared.reader.TreeReader.{TreeReader}
use Rattle.tree_pairs.specs.Counts.{AreCounts}
use Rattle.tree_pairs.specs.Fronts.{block_pairs}

-- the path and the kind are those of a tree's last entry, and where it has no entry those of the root
pub record IsLast (path : Path) (kind : Kind) (t : Tree) : Type 0 where
  pub none_behind : AllByRecursion (λ e. is_le (path_cmp e.0 path) ≡ true) t
  pub stands : kind_of_node (node_at t path) ≡ Some kind

-- an entry may stand at the path behind those of a tree
pub record MayStandNext (t : Tree) (path : Path) : Type 0 where
  pub valid : IsTrue (is_path path)
  pub below_root : is_root path ≡ false
  pub parent_directory : is_directory t (parent path) ≡ true
  pub behind : AllByRecursion (λ e. path_cmp e.0 path ≡ Less) t

-- the same by the last entry alone: the parent is the root, or the last path if that is a directory, or a path strictly
-- above it
abbrev pub MayFollow : Path → Kind → Path → Type 0
MayFollow last kind path = (path_cmp last path ≡ Less)
    × ((parent path ≡ []) ⊎ ((parent path ≡ last) × (kind ≡ kinds.Directory)) ⊎ IsTrue (is_inside last (parent path)))

-- the name is that of the last of the attributes, where there are any
abbrev pub IsLastName : Option Name → Attributes → Type 0
IsLastName None attributes = attributes ≡ []
IsLastName (Some name) attributes = (front : Attributes) × (bytes : List ℕ) × (attributes ≡ front ++ (name, bytes) ∷ [])

-- a name may stand behind the last one
abbrev pub IsAbove : Option Name → Name → Type 0
IsAbove None name = Unit {0}
IsAbove (Some last) name = name_cmp last name ≡ Less

-- an attribute may stand next: the version has attributes, the path is that of the last entry, and the name is above
-- those of its attributes so far
abbrev pub MayBeNext : Version → Path → Option Name → Path → Name → Type 0
MayBeNext version last so_far path name = IsTrue (has_attributes version) × (path ≡ last) × IsAbove so_far name

-- what stands at a path, without attributes
abbrev pub bare_entry : Node → Entry
bare_entry node = record { node = node; attributes = [] }

-- the pair is the next block of a file of len bytes, of which so many were read: it has the next number, and it is full
-- unless it is the last
abbrev pub IsNextBlock : Path → ℕ → ℕ → List ℕ → List ℕ → Type 0
IsNextBlock path read len key_bytes value =
    (key_bytes ≡ key path (read / file_block + 1)) × (length value ≡ min (len - read) file_block)

-- how many bytes of a file stand at a path
abbrev pub size_of : Kind → ℕ
size_of kinds.Directory = 0
size_of (kinds.File len) = len

-- how many of them stand in the first pair: all, or none
abbrev pub size_in_first : Version → Kind → ℕ
size_in_first version kinds.Directory = 0
size_in_first version (kinds.File len) = cond (is_inline version len) len 0

-- the pairs are those of whole entries, of which the reader knows the last, and the name of its last attribute so far
pub record IsBetweenEntries (reader : TreeReader) (s : List Pair) (p : Parameters) : Type 0 where
  pub version_is : p.version ≡ reader.version
  pub tree : Tree
  pub is_tree : IsTree tree
  pub bare : has_attributes p.version ≡ false → IsBare tree
  pub pairs_are : s ≡ pairs tree p
  pub last : IsLast reader.last.path reader.last.kind tree
  pub last_name : IsLastName reader.attribute (attributes_at tree reader.last.path)
  pub whole : size_of reader.last.kind ≤ reader.read
  pub counts_are : AreCounts tree reader.counts

-- the pairs are those of whole entries, the first pair of a file behind them, and of its blocks those of the bytes that
-- were read, which are not all of them
pub record IsInFile (reader : TreeReader) (s : List Pair) (p : Parameters) : Type 0 where
  pub version_is : p.version ≡ reader.version
  pub before : Tree
  pub is_tree : IsTree before
  pub bare : has_attributes p.version ≡ false → IsBare before
  pub no_name : reader.attribute ≡ None
  pub next : MayStandNext before reader.last.path
  pub len : ℕ
  pub kind_is : reader.last.kind ≡ kinds.File len
  pub in_blocks : is_inline p.version len ≡ false
  pub short : len ≤ file_limit
  pub bytes : List ℕ
  pub valid : IsBytes bytes
  pub read_is : length bytes ≡ reader.read
  pub more : reader.read < len
  pub blocks : ℕ
  pub full : reader.read ≡ file_block * blocks
  pub pairs_are : s ≡ pairs before p ++ (key reader.last.path 0, file_value len) ∷ block_pairs reader.last.path bytes
  pub counts_are : (content : List ℕ) → length content ≡ len
      → AreCounts (before ++ (reader.last.path, bare_entry (File content)) ∷ []) reader.counts

-- the reader has seen these pairs and no others, and the parameters have its version
unfoldable pub HasSeen : TreeReader → List Pair → Parameters → Type 0
HasSeen reader s p = IsBetweenEntries reader s p ⊎ IsInFile reader s p
