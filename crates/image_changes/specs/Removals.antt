-- The changes of a removal.
use Rattle.std.specs.Prelude.{◌↔◌, List, Bool, true, false, Contains}
use Rattle.store_model.specs.Paths.{Path}
use Rattle.staged_tree.specs.declared.guards.When.{When}
use Rattle.staged_tree.specs.declared.guards.When.TheVariants as whens
use Rattle.image_changes.specs.declared.path_changes.PathChange.{PathChange}
use Rattle.image_changes.specs.declared.path_changes.PathChange.TheVariants as kinds

abbrev pub kind_of : Bool → PathChange
kind_of true = kinds.Prune
kind_of false = kinds.Remove

abbrev pub when_of : Bool → When
when_of true = whens.Exists
when_of false = whens.Always

-- two lists name the same paths
abbrev pub HaveSame : List Path → List Path → Type 0
HaveSame one other = (path : Path) → Contains one path ↔ Contains other path
