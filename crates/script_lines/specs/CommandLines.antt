-- The texts of paths in the lines of commands.
use Rattle.std.specs.Prelude.{ℕ, List, ◌∷◌}
use Rattle.std.specs.List.{flat_map}
use Rattle.store_model.specs.Paths.{Path}

-- `/` and the name for each name: the text of each path but the root
abbrev pub names_text : Path → List ℕ
names_text p = flat_map (λ m. 0x2f ∷ m) p
