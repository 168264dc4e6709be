-- The texts of paths, name by name.
use Rattle.std.proofs.Common.{◌≡◌, ℕ, ◌+◌, ◌<◌, ◌≤◌, List, [], ◌∷◌, ◌++◌, length, false, IsTrue, ◌↔◌, Some, IsNone}
use Rattle.std.proofs.Common.{refl, sym, ap, ◌∙◌, arith, length-append, leb-true}
use Rattle.std.specs.List.{list_all}
use Rattle.std.proofs.lemmas.List.{append-nil}
use Rattle.std.proofs.lemmas.List.Concat.{flat_map-append}
use Rattle.store_model.specs.Paths.{Path, is_name, is_path, is_root, fits_field, name_bytes, field_len, parent}
use Rattle.store_model.specs.Paths.{last_name, path_text}
use Rattle.store_model.proofs.ListsLemmas.{second_true}
use Rattle.path_keys.proofs.PathBytes.{last_split}
use Rattle.script_lines.specs.CommandLines.{names_text}

-- the names' text ends with the last name
pub names_split : (p : Path) → is_root p ≡ false → names_text p ≡ names_text (parent p) ++ (0x2f ∷ last_name p)
names_split p other =
    ap names_text (last_split p other) ∙ flat_map-append (λ m. 0x2f ∷ m) (parent p) (last_name p ∷ [])
    ∙ ap (λ (t : List ℕ). names_text (parent p) ++ t) (append-nil (0x2f ∷ last_name p))

-- it is as long as the names in a key
pub length-names_text : (p : Path) → length (names_text p) ≡ field_len p
unfolding name_bytes
length-names_text [] = refl
length-names_text (n ∷ p) =
    omega (
      arith,
      length-append (0x2f ∷ n) (names_text p),
      length-append (n ++ 0 ∷ []) (name_bytes p),
      length-append n
          (0 ∷ []),
      length-names_text p,
    )

-- so it fits the field of a key
pub names_text-fits : (p : Path) → IsTrue (is_path p) → length (names_text p) ≤ 120
names_text-fits p valid =
    omega (
      arith,
      length-names_text p,
      leb-true (field_len p) 120
          (second_true (list_all is_name p) (fits_field p) valid),
    )

-- for each path but the root it is the path's text
pub path_text-names : (p : Path) → is_root p ≡ false → path_text p ≡ names_text p
unfolding path_text
path_text-names [] other = cc
path_text-names (n ∷ p) other = refl

-- the parent has a name less
pub parent_shorter : (p : Path) → is_root p ≡ false → length (parent p) < length p
parent_shorter p other = omega (arith, ap length (last_split p other), length-append (parent p) (last_name p ∷ []))

-- a path that has a parent is not the root
pub has_names : (p q : Path) → (IsNone (Some q) ↔ IsTrue (is_root p)) → is_root p ≡ false
has_names [] q none = none.1 refl
has_names (n ∷ p) q none = refl

-- what a path's text adds to that of its parent
pub names_split_of : (p q : Path) → is_root p ≡ false → q ≡ parent p
    → names_text p ≡ names_text q ++ (0x2f ∷ last_name p)
names_split_of p q other e = names_split p other ∙ ap (λ (r : Path). names_text r ++ (0x2f ∷ last_name p)) (sym e)

-- and how much that is
pub length-names_split : (p q : Path) → is_root p ≡ false → q ≡ parent p
    → length (names_text p) ≡ length (names_text q) + 1 + length (last_name p)
length-names_split p q other e =
    omega (arith, ap length (names_split_of p q other e), length-append (names_text q) (0x2f ∷ last_name p))
