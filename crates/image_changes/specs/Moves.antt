-- The changes of a move.
use Rattle.std.specs.Prelude.{List, [], ◌∷◌, Bool, not, ◌&&◌, if◌then◌else◌}
use Rattle.store_model.specs.Paths.{Path, same_path}
use Rattle.store_model.specs.Commands.Command.{Remove, Rename}
use Rattle.staged_tree.specs.declared.guards.When.TheVariants as whens
use Rattle.staged_tree.specs.Guards.{Guarded}

abbrev pub renaming : Path → Path → Guarded
renaming from to = record { when = whens.Always; change = Rename from to }

-- a file that is replaced goes first
abbrev pub replacing : Path → Guarded
replacing to = record { when = whens.IsFile; change = Remove to }

abbrev pub move_changes : Bool → Path → Path → List Guarded
move_changes forced from to = if forced && not (same_path from to)
    then replacing to ∷ renaming from to ∷ [] else renaming from to ∷ []
