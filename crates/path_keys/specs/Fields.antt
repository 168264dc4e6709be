-- The names in the bytes of a path's field.
use Rattle.std.specs.Prelude.{◌≡◌, ℕ, List, [], ◌∷◌, length, ◌==◌, IsTrue, if◌then◌else◌, map}
use Rattle.std.specs.List.{onto_first}
use Rattle.store_model.specs.Lists.{zero_filled}
use Rattle.store_model.specs.Paths.{Path, Name, is_path, is_attribute_name, attribute_name_limit, field, field_len}

-- what each byte 0 ends, as a name
unfoldable pub names_in : List ℕ → Path
names_in [] = []
names_in (c ∷ bytes) = if c == 0 then [] ∷ names_in bytes else onto_first c (names_in bytes)

-- the bytes are the field of a path, and the number is its length without the zeros that fill it
pub record IsField (bytes : List ℕ) (len : ℕ) (p : Path) : Type 0 where
  pub path : IsTrue (is_path p)
  pub bytes_are : bytes ≡ field p
  pub len_is : len ≡ field_len p

-- the bytes with a byte 0 for each separator
abbrev pub with_zeros : ℕ → List ℕ → List ℕ
with_zeros separator text = map (λ b. if b == separator then 0 else b) text

-- the bytes are an attribute's name and zeros, and the number is the name's length
pub record IsNameField (bytes : List ℕ) (len : ℕ) (name : Name) : Type 0 where
  pub valid : IsTrue (is_attribute_name name)
  pub bytes_are : bytes ≡ zero_filled attribute_name_limit name
  pub len_is : len ≡ length name
