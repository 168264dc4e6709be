-- What it means to set an attribute of a path, and to take one away.
use Rattle.std.specs.Prelude.{◌≡◌, ℕ, List, Some, None, option_map, if◌then◌else◌}
use Rattle.std.specs.FinMap.{find}
use Rattle.store_model.specs.declared.refusal.Refusal.{Refusal}
use Rattle.store_model.specs.Parameters.{Parameters}
use Rattle.store_model.specs.Paths.{Path, Name, path_cmp, same_path}
use Rattle.store_model.specs.Trees.{Tree, Entry, Attributes, with_attribute, without_attribute}
use Rattle.store_model.specs.Commands.{Command}
use Rattle.store_model.specs.Commands.Command.{SetAttribute, UnsetAttribute}
use Rattle.tree_changes.specs.Conditional.{refusal_under}
use Rattle.tree_changes.specs.Meant.{Standing, HasJust}

-- what stands where the attributes of one path are changed: there what stood with other attributes, elsewhere what
-- stood
abbrev pub attributed_at : Path → (Attributes → Attributes) → Tree → Standing
attributed_at path change t x = if same_path x path then option_map
    (λ (e : Entry). record { node = e.node; attributes = change e.attributes })
    (find path_cmp x t) else find path_cmp x t

-- The path has the attribute with these bytes, and whatever else it had. The command's own conditions say why it is
-- refused: `version` too.
pub record HasSet (p : Parameters) (path : Path) (name : Name) (bytes : List ℕ) (t u : Tree) : Type 0 where
  pub allowed : refusal_under p t (SetAttribute path name bytes) ≡ None
  pub standing : HasJust (attributed_at path (λ a. with_attribute a name bytes) t) u

-- The path has no attribute of the name, which it had, and whatever else it had.
pub record HasUnset (p : Parameters) (path : Path) (name : Name) (t u : Tree) : Type 0 where
  pub allowed : refusal_under p t (UnsetAttribute path name) ≡ None
  pub standing : HasJust (attributed_at path (λ a. without_attribute a name) t) u

-- A command on an attribute of a path is refused there, for this reason.
pub record IsRefusedAt (p : Parameters) (path : Path) (c : Command) (t : Tree) (place : Path)
    (why : Refusal) : Type 0 where
  pub place_is : place ≡ path
  pub reason : refusal_under p t c ≡ Some why
