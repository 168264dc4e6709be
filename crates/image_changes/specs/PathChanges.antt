-- Changes of one kind, one for each path of a list, as a stream.
use Rattle.std.specs.Prelude.{◌≡◌, List, [], ◌∷◌, ◌++◌, map, take}
use Rattle.store_model.specs.Paths.{Path}
use Rattle.store_model.specs.Commands.{Command}
use Rattle.store_model.specs.Commands.Command.{Make, Remove, Prune}
use Rattle.staged_tree.specs.declared.guards.When.{When}
use Rattle.staged_tree.specs.Guards.{Guarded, path_of}
use Rattle.image_changes.specs.declared.path_changes.PathChange.{PathChange}
use Rattle.image_changes.specs.declared.path_changes.PathChange.TheVariants as kinds
use Rattle.image_changes.specs.declared.path_changes.PathChanges.{PathChanges}

-- the change of a kind at a path
abbrev pub change_at : PathChange → Path → Command
change_at kinds.Make path = Make path
change_at kinds.Remove path = Remove path
change_at kinds.Prune path = Prune path

abbrev pub guarded_at : When → PathChange → Path → Guarded
guarded_at when kind path = record { when = when; change = change_at kind path }

-- all changes of the stream
abbrev pub all_of : PathChanges → List Guarded
all_of stream = map (guarded_at stream.when stream.kind) stream.paths.items

-- the path of the last of some changes
abbrev pub EndsAt : List Guarded → Path → Type 0
EndsAt changes path = (front : List Guarded) (g : Guarded) → changes ≡ front ++ g ∷ [] → path_of g.change ≡ path

-- the first ones came, so many as were given, and the last of them is on this path
pub record HasGiven (stream : PathChanges) (changes : List Guarded) : Type 0 where
  pub changes_are : changes ≡ map (guarded_at stream.when stream.kind) (take stream.given stream.paths.items)
  pub ends : EndsAt changes stream.last

-- they are all of the stream
abbrev pub AreAll : PathChanges → List Guarded → Type 0
AreAll stream changes = changes ≡ all_of stream

-- the list stays, and so does the kind
pub record KeepsPaths (start stream : PathChanges) : Type 0 where
  pub paths : stream.paths ≡ start.paths
  pub kind : stream.kind ≡ start.kind
  pub when : stream.when ≡ start.when
