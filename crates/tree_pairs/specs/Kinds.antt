-- What stands at a path, as the program says it, the values that say so, and the values of attributes.
use Rattle.std.specs.Prelude.{◌≡◌, ◌≤◌, ℕ, Bool, true, false, List, length, Option, Some, None}
use Rattle.store_model.specs.declared.version.Version.{Version}
use Rattle.store_model.specs.Pairs.{directory_value, file_value, inline_value, attribute_value, is_inline}
use Rattle.store_model.specs.Trees.{Node, file_limit, attribute_limit}
use Rattle.store_model.specs.Trees.Node.{Directory, File}
use Rattle.tree_pairs.specs.declared.kind.Kind.{Kind}
use Rattle.tree_pairs.specs.declared.kind.Kind.TheVariants as kinds

-- a directory, or a file of so many bytes
abbrev pub kind_of : Node → Kind
kind_of Directory = kinds.Directory
kind_of (File bytes) = kinds.File (length bytes)

-- the same of what stands at a path, if anything does
abbrev pub kind_of_node : Option Node → Option Kind
kind_of_node None = None
kind_of_node (Some node) = Some (kind_of node)

-- the values that the first pair of a file of so many bytes has: the bytes themselves, or their number
abbrev pub IsFileValue : Bool → ℕ → List ℕ → Type 0
IsFileValue true len value = (bytes : List ℕ) × (length bytes ≡ len) × (value ≡ inline_value bytes)
IsFileValue false len value = value ≡ file_value len

-- the values that the first pair of a kind has under a version
abbrev pub IsValueOf : Version → Kind → List ℕ → Type 0
IsValueOf version kinds.Directory value = value ≡ directory_value
IsValueOf version (kinds.File len) value = IsFileValue (is_inline version len) len value

-- the value is one that the kind has under some version
abbrev pub Says : List ℕ → Kind → Type 0
Says value kind = (version : Version) × IsValueOf version kind value

-- the value of the first pair of a file with these bytes: the bytes themselves, or their number
abbrev pub file_first : Bool → List ℕ → List ℕ
file_first true bytes = inline_value bytes
file_first false bytes = file_value (length bytes)

-- the value of the first pair of what stands at a path, if anything does
abbrev pub first_value : Option Node → Version → Option (List ℕ)
first_value None version = None
first_value (Some Directory) version = Some directory_value
first_value (Some (File bytes)) version = Some (file_first (is_inline version (length bytes)) bytes)

-- the first pair, if there is one, has no bytes of a file in it
abbrev pub LacksBytes : Option (List ℕ) → Type 0
LacksBytes first = (bytes : List ℕ) → first ≡ Some (inline_value bytes) → ⊥

-- the value is that of no attribute
abbrev pub IsNoAttribute : List ℕ → Type 0
IsNoAttribute value = (bytes : List ℕ) → length bytes ≤ attribute_limit → value ≡ attribute_value bytes → ⊥

-- no file is longer than one may be
abbrev pub IsKind : Kind → Type 0
IsKind kinds.Directory = Unit {0}
IsKind (kinds.File len) = len ≤ file_limit
