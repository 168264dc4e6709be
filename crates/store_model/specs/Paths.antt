-- Paths as lists of names, their text, their order, their attributes' names, and the keys that they have.
use Rattle.std.specs.Prelude.{ℕ, ◌-◌, List, [], ◌∷◌, ◌++◌, length, take, drop, Bool, true, false, not, ◌&&◌, ◌||◌}
use Rattle.std.specs.Prelude.{nat_le, nat_lt, ◌==◌}
use Rattle.std.specs.Int.{w32, to_be_bytes}
use Rattle.std.specs.List.{flat_map, list_all, concat}
use Rattle.std.specs.declared.cmp.Ordering.{Ordering}
use Rattle.std.specs.Ordering.{nat_cmp, eq_by_cmp}
use Rattle.std.specs.Cmp.Lexicographic.{slice_cmp}
use Rattle.store_model.specs.Lists.{zero_filled, same_bytes}

-- a name is a byte string; a path is a list of names, and the root has none
abbrev pub Name : Type 0
Name = List ℕ

abbrev pub Path : Type 0
Path = List (List ℕ)

abbrev pub root : Path
root = []

-- printable ASCII other than the space and `/`
abbrev pub is_name_byte : ℕ → Bool
is_name_byte c = nat_le 0x21 c && nat_le c 0x7e && not (c == 0x2f)

-- one byte or more, and neither `.` nor `..`
abbrev pub is_name : Name → Bool
is_name n = nat_le 1 (length n) && list_all is_name_byte n && not (same_bytes n (0x2e ∷ []))
    && not (same_bytes n (0x2e ∷ 0x2e ∷ []))

-- each name followed by a byte 0
unfoldable pub name_bytes : Path → List ℕ
name_bytes p = flat_map (λ n. n ++ 0 ∷ []) p

-- the bytes that a path's field needs; for a path other than the root, the length of its text
abbrev pub field_len : Path → ℕ
field_len p = length (name_bytes p)

-- the bytes of a path's field in a key, and of a key
abbrev pub field_limit : ℕ
field_limit = 120

abbrev pub key_len : ℕ
key_len = 124

-- whether the field holds the path
abbrev pub fits_field : Path → Bool
fits_field p = nat_le (field_len p) field_limit

-- a path is made of names and its field has at most 120 bytes
abbrev pub is_path : Path → Bool
is_path p = list_all is_name p && fits_field p

-- the text: `/` for the root, and else `/` and the name for each name
unfoldable pub path_text : Path → List ℕ
path_text [] = 0x2f ∷ []
path_text (n ∷ p) = flat_map (λ m. 0x2f ∷ m) (n ∷ p)

-- the order of paths: name by name, each name as bytes; a path stands before what lies below it
abbrev pub name_cmp : Name → Name → Ordering
name_cmp = slice_cmp nat_cmp

abbrev pub path_cmp : Path → Path → Ordering
path_cmp = slice_cmp name_cmp

-- whether two paths are the same
abbrev pub same_path : Path → Path → Bool
same_path p q = eq_by_cmp path_cmp p q

abbrev pub is_root : Path → Bool
is_root [] = true
is_root (n ∷ p) = false

-- all names but the last; the root's own parent is the root
unfoldable pub parent : Path → Path
parent p = take (length p - 1) p

-- the last name, and nothing for the root
unfoldable pub last_name : Path → Name
last_name p = concat (drop (length p - 1) p)

-- whether p lies strictly below q
unfoldable pub is_inside : Path → Path → Bool
is_inside p q = nat_lt (length q) (length p) && same_path (take (length q) p) q

-- whether p is q or lies below it
abbrev pub is_at_or_inside : Path → Path → Bool
is_at_or_inside p q = same_path p q || is_inside p q

-- the path of p after a move of `old` to `new`, where p is `old` or lies below it
unfoldable pub replanted : Path → Path → Path → Path
replanted old new p = new ++ drop (length old) p

-- the 120 bytes of a path in a key
unfoldable pub field : Path → List ℕ
field p = zero_filled field_limit (name_bytes p)

-- the 124 bytes of a key: the path's field and a block number
unfoldable pub key : Path → ℕ → List ℕ
key p block = field p ++ to_be_bytes w32 block

-- the order of keys: as bytes
abbrev pub key_cmp : List ℕ → List ℕ → Ordering
key_cmp = slice_cmp nat_cmp

-- the longest name of an attribute
abbrev pub attribute_name_limit : ℕ
attribute_name_limit = 32

-- an attribute's name is a name of at most 32 bytes
abbrev pub is_attribute_name : Name → Bool
is_attribute_name n = is_name n && nat_le (length n) attribute_name_limit

-- the byte that stands before an attribute's name in its field: it is below each byte of a name
abbrev pub attribute_mark : ℕ
attribute_mark = 1

-- where an attribute of a path stands among paths, as though it were one below the path: its last part is the byte 1
-- and the attribute's name. So it stands behind the path and before all paths below it. On places, `parent` and
-- `is_inside` take attributes for children
abbrev pub attribute_place : Path → Name → Path
attribute_place p a = p ++ (attribute_mark ∷ a) ∷ []

-- whether the field holds the attribute
abbrev pub fits_attribute : Path → Name → Bool
fits_attribute p a = fits_field (attribute_place p a)

-- the 124 bytes of an attribute's key: the path's names, each with a byte 0 behind it, the byte 1, the attribute's
-- name, zeros, and the block number 0
abbrev pub attribute_key : Path → Name → List ℕ
attribute_key p a = key (attribute_place p a) 0

-- what may stand between the bytes 0 of a field: bytes other than 0, one or more
abbrev pub is_part : Name → Bool
is_part n = nat_le 1 (length n) && list_all (λ c. nat_le 1 c && nat_le c 0xff) n

-- a place is a list of parts that a field holds; paths and attributes are such
abbrev pub is_place : Path → Bool
is_place p = list_all is_part p && fits_field p
