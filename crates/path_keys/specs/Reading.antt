-- What is read from a text.
use Rattle.std.specs.Prelude.{◌≡◌, ℕ, ◌<◌, ◌≤◌, List, length, Option, Result, Ok, Err, Some, None, IsTrue, true, false}
use Rattle.std.specs.Prelude.{◌==◌}
use Rattle.std.specs.List.{list_all, slice_split}
use Rattle.store_model.specs.Paths.{Path, Name, is_name, is_path, is_attribute_name, fits_attribute, attribute_key}
use Rattle.store_model.specs.Paths.{is_root, field, field_limit}
use Rattle.path_keys.specs.declared.paths.PathFault.{PathFault}
use Rattle.path_keys.specs.declared.paths.PathFault.TheVariants.{Syntax, TooLong}

-- the parts of a text that a separator leaves
abbrev pub parts_of : ℕ → List ℕ → Path
parts_of separator text = slice_split (λ b. b == separator) text

abbrev pub IsOfNames : ℕ → List ℕ → Result Path PathFault → Type 0
IsOfNames separator text (Ok p) = (list_all is_name (parts_of separator text) ≡ true) × (length text < field_limit)
    × (p ≡ parts_of separator text)
IsOfNames separator text (Err Syntax) = list_all is_name (parts_of separator text) ≡ false
IsOfNames separator text (Err TooLong) = (list_all is_name (parts_of separator text) ≡ true)
    × (field_limit ≤ length text)

-- the bytes are the field of no path other than the root
abbrev pub HasNoPath : List ℕ → Type 0
HasNoPath bytes = (p : Path) → IsTrue (is_path p) → is_root p ≡ false → bytes ≡ field p → ⊥

-- the path other than the root that has this field
abbrev pub IsOfField : List ℕ → Option Path → Type 0
IsOfField bytes (Some p) = IsTrue (is_path p) × (is_root p ≡ false) × (bytes ≡ field p)
IsOfField bytes None = HasNoPath bytes

-- the bytes are the key of no attribute
abbrev pub HasNoAttribute : List ℕ → Type 0
HasNoAttribute bytes = (p : Path) (a : Name) → IsTrue (is_path p) → is_root p ≡ false → IsTrue (is_attribute_name a)
    → IsTrue (fits_attribute p a)
    → bytes ≡ attribute_key p a → ⊥
