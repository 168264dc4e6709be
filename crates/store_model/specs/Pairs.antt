-- The list of pairs that spells a tree: the list layer's view of it.
use Rattle.std.specs.Prelude.{◌≡◌, ℕ, ◌≤◌, nat_le, IsTrue, Bool, true, false, List, [], ◌∷◌, ◌++◌, map, length}
use Rattle.std.specs.Int.{w32, to_be_bytes}
use Rattle.std.specs.List.{flat_map, enumerate_from, AllByRecursion}
use Rattle.std.specs.FinMap.{is_sorted}
use Rattle.store_model.specs.declared.version.Version.{Version}
use Rattle.store_model.specs.declared.version.Version.TheVariants.{One, Two}
use Rattle.store_model.specs.Lists.{IsBytes, runs}
use Rattle.store_model.specs.Parameters.{Parameters}
use Rattle.store_model.specs.Paths.{Path, key_len, key, attribute_key, key_cmp}
use Rattle.store_model.specs.Trees.{Tree, Node, Entry, Attributes}
use Rattle.store_model.specs.Trees.Node.{Directory, File}

-- a key of 124 bytes and a value of 1 to 256 bytes
abbrev pub Pair : Type 0
Pair = List ℕ × List ℕ

-- the most bytes of a value
abbrev pub value_limit : ℕ
value_limit = 256

-- the bytes of a file in one pair: as many as a value has at most
abbrev pub file_block : ℕ
file_block = value_limit

-- the value of a directory's one pair, and of the first of the pairs that a file of n bytes has where its bytes stand
-- in blocks
abbrev pub directory_value : List ℕ
directory_value = 1 ∷ []

abbrev pub file_value : ℕ → List ℕ
file_value n = 2 ∷ to_be_bytes w32 n

-- the most bytes of a file that version 2 keeps in the file's first pair, and the value of that pair
abbrev pub inline_limit : ℕ
inline_limit = 200

abbrev pub inline_value : List ℕ → List ℕ
inline_value bytes = 3 ∷ bytes

-- whether a version keeps the bytes of a file of n bytes in the file's first pair
abbrev pub is_inline : Version → ℕ → Bool
is_inline One n = false
is_inline Two n = nat_le n inline_limit

-- the pairs of a file: its first pair alone, or behind it the blocks of its bytes, numbered from 1
abbrev pub file_pairs : Bool → Path → List ℕ → List Pair
file_pairs true path bytes = (key path 0, inline_value bytes) ∷ []
file_pairs false path bytes = (key path 0, file_value (length bytes))
    ∷ map (λ b. (key path b.0, b.1)) (enumerate_from 1 (runs file_block bytes))

-- the pairs of what stands at a path
unfoldable pub node_pairs : Path → Node → Parameters → List Pair
node_pairs path Directory p = (key path 0, directory_value) ∷ []
node_pairs path (File bytes) p = file_pairs (is_inline p.version (length bytes)) path bytes

-- whether a version has attributes
abbrev pub has_attributes : Version → Bool
has_attributes One = false
has_attributes Two = true

-- the value of an attribute's pair
abbrev pub attribute_value : List ℕ → List ℕ
attribute_value bytes = 4 ∷ bytes

-- the pairs of a path's attributes
unfoldable pub attribute_pairs : Path → Attributes → List Pair
attribute_pairs path attributes = map (λ a. (attribute_key path a.0, attribute_value a.1)) attributes

-- the pairs of an entry: those of what stands at the path, and behind them those of its attributes
abbrev pub entry_pairs : Path → Entry → Parameters → List Pair
entry_pairs path entry p = node_pairs path entry.node p ++ attribute_pairs path entry.attributes

-- the pairs of a tree, path after path. They rise by key: a path's attributes stand behind
-- its blocks and before all paths below it
unfoldable pub pairs : Tree → Parameters → List Pair
pairs t p = flat_map (λ e. entry_pairs e.0 e.1 p) t

-- what a value may be: 1 to 256 bytes
abbrev pub IsValue : List ℕ → Type 0
IsValue v = (1 ≤ length v) × (length v ≤ value_limit) × IsBytes v

-- a pair has a key of 124 bytes and a value
pub record IsPair (pair : Pair) : Type 0 where
  pub key_length : length pair.0 ≡ key_len
  pub key_bytes : IsBytes pair.0
  pub value : IsValue pair.1

-- a finite map from keys to values: the keys strictly rise
pub record IsPairs (s : List Pair) : Type 0 where
  pub sorted : IsTrue (is_sorted key_cmp s)
  pub pairs : AllByRecursion IsPair s
