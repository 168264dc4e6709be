-- The paths on the host of paths of an image.
use Rattle.std.specs.Prelude.{◌≡◌, ℕ, List, ◌∷◌, ◌++◌, IsTrue, map}
use Rattle.std.specs.List.{flat_map, AllByRecursion}
use Rattle.std.specs.Str.{IsUtf8}
use Rattle.store_model.specs.Paths.{Path}
use Rattle.host_names.specs.HostNames.{escaped, is_host_name}

-- the names of the host that a path spells, one for each of its names
pub record AreHostNames (path : Path) (names : List (List ℕ)) : Type 0 where
  pub each : AllByRecursion (λ n. IsTrue (is_host_name n)) names
  pub spelled : map escaped names ≡ path

-- `/` and the name for each name
abbrev pub host_text : List (List ℕ) → List ℕ
host_text names = flat_map (λ n. 0x2f ∷ n) names

-- new is old with the text of the names that the path spells
pub record AppendsHostNames (path : Path) (old new : List ℕ) : Type 0 where
  pub names : List (List ℕ)
  pub are : AreHostNames path names
  pub appended : new ≡ old ++ host_text names

-- new is old with `/` and the name that the text spells
pub record AppendsHostName (text old new : List ℕ) : Type 0 where
  pub name : List ℕ
  pub is_one : IsTrue (is_host_name name)
  pub spelled : escaped name ≡ text
  pub appended : new ≡ old ++ (0x2f ∷ name)

-- the text spells no name of the host
abbrev pub HasNoHostName : List ℕ → Type 0
HasNoHostName text = (name : List ℕ) → IsTrue (is_host_name name) → escaped name ≡ text → ⊥

-- the path on the host of a path below a folder
abbrev pub IsHostPath : List ℕ → Path → List ℕ → Type 0
IsHostPath folder path bytes = AppendsHostNames path folder bytes

-- the path spells no names of the host
abbrev pub HasNoHostPath : Path → Type 0
HasNoHostPath path = (names : List (List ℕ)) → AreHostNames path names → ⊥

-- the path has one on the host, which is no UTF-8
pub record HasNoText (folder : List ℕ) (path : Path) : Type 0 where
  pub bytes : List ℕ
  pub is_path : IsHostPath folder path bytes
  pub not_utf8 : IsUtf8 bytes → ⊥
