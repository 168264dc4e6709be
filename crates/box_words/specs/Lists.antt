-- How the path of a file is given to `get`.
use Rattle.std.specs.Prelude.{◌≡◌, ℕ, List, Option, Some, None, option_map}
use Rattle.std.specs.Borrow.{Bor}
use Rattle.box_words.specs.Sources.{origin_path, path_said}
use Rattle.box_words.specs.declared.get.Named.{Named}
use Rattle.box_words.specs.declared.get.Named.TheVariants as named

-- by the words of `--paths0-from`, PATH and FILE: without a list by PATH, and with one by that, where FILE stands in
-- the place of PATH
abbrev pub IsNamed : Option (List ℕ) → Option (List ℕ) → Option (List ℕ) → Named → Option (Bor (List ℕ)) → Type 0
IsNamed list first second (named.Word path) file =
    (list ≡ None) × (first ≡ Some path.now) × (second ≡ option_map (λ name. name.now) file)
IsNamed list first second (named.List origin) file =
    (option_map path_said list ≡ Some (origin_path origin)) × (first ≡ option_map (λ name. name.now) file)
    × (second ≡ None)
