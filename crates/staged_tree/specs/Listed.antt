-- A list of changes with guards, as a stream.
use Rattle.std.specs.Prelude.{◌≡◌, ℕ, List, take}
use Rattle.script_lines.specs.declared.session.Change.{Change}
use Rattle.script_lines.specs.Sessions.{change_of}
use Rattle.staged_tree.specs.declared.guards.When.{When}
use Rattle.staged_tree.specs.Guards.{Guarded}

-- a change with its guard, as the definitions have them
abbrev pub guarded_of : When × Change → Guarded
guarded_of listed = record { when = listed.0; change = change_of listed.1 }

-- A list of changes, of which so many were given.
pub record ListedState : Type 0 where
  pub changes : List Guarded
  pub given : ℕ

-- the first ones came, so many as were given
abbrev pub HasGiven : ListedState → List Guarded → Type 0
HasGiven state changes = changes ≡ take state.given state.changes

-- they are all of the list
abbrev pub AreListed : ListedState → List Guarded → Type 0
AreListed state changes = changes ≡ state.changes

-- the list stays
abbrev pub KeepsListed : ListedState → ListedState → Type 0
KeepsListed start state = state.changes ≡ start.changes
