-- The ways that lead to paths.
use Rattle.std.specs.Prelude.{◌≡◌, List, [], ◌∷◌, ◌++◌, map, take, Option, Some, None}
use Rattle.store_model.specs.Paths.{Path}
use Rattle.store_model.specs.Commands.Command.{Make}
use Rattle.staged_tree.specs.declared.guards.When.TheVariants as whens
use Rattle.staged_tree.specs.Guards.{Guarded}
use Rattle.tree_changes.specs.Folders.{way_to, ways_to}
use Rattle.image_changes.specs.PathChanges.{EndsAt}
use Rattle.image_changes.specs.declared.parent_changes.ParentChanges.{ParentChanges}

-- where a way leads on to from a path, of which these names are left: to the path with one name more, unless none is
-- left
abbrev pub LeadsOn : Path → Path → Path → Option Path → Type 0
LeadsOn front [] new None = new ≡ front
LeadsOn front [] new (Some path) = ⊥
LeadsOn front (n ∷ rest) new None = ⊥
LeadsOn front (n ∷ rest) new (Some path) = (path ≡ front ++ n ∷ []) × (new ≡ front ++ n ∷ [])

-- the change that makes a directory on the way
abbrev pub passing : Path → Guarded
passing path = record { when = whens.NotDirectory; change = Make path }

-- Of the ways to the first paths those before the last one came whole, and the last one up to where it stands.
pub record HasPassed (stream : ParentChanges) (changes : List Guarded) : Type 0 where
  pub done : List Path
  pub rest : Path
  pub way_is : stream.way.path ≡ stream.way.front ++ rest
  pub split : ways_to (take stream.begun stream.paths.items) ≡ done ++ way_to stream.way.path
  pub changes_are : changes ≡ map passing (done ++ way_to stream.way.front)

-- the same, and the last change is where the way stands
pub record HasPassedTo (stream : ParentChanges) (changes : List Guarded) : Type 0 where
  pub passed : HasPassed stream changes
  pub ends : EndsAt changes stream.way.front

-- the ways to all paths came
abbrev pub ArePassed : ParentChanges → List Guarded → Type 0
ArePassed stream changes = changes ≡ map passing (ways_to stream.paths.items)

-- the paths stay
abbrev pub KeepsWays : ParentChanges → ParentChanges → Type 0
KeepsWays start stream = stream.paths ≡ start.paths
