-- The changes of a plan, as a stream.
use Rattle.std.specs.Prelude.{◌≡◌, ◌≤◌, ◌⊎◌, List, ◌++◌, map, take, length}
use Rattle.store_model.specs.Commands.{Command}
use Rattle.dump_streams.specs.Dumps.{command_of_step}
use Rattle.dump_diff.specs.Scripts.{removal_command}
use Rattle.staged_tree.specs.declared.guards.When.TheVariants as whens
use Rattle.staged_tree.specs.Guards.{Guarded}
use Rattle.image_sync.specs.declared.planned.PlannedChanges.{PlannedChanges}

-- a command that is carried out whatever stands at its path
abbrev pub always : Command → Guarded
always c = record { when = whens.Always; change = c }

-- The first ones came: of the removals so many, and once all of them came so many of the steps.
pub record HasGiven (stream : PlannedChanges) (changes : List Guarded) : Type 0 where
  pub changes_are : changes ≡ map always (map removal_command (take stream.removed stream.removals.now)
      ++ map command_of_step (take stream.added stream.additions.now))
  pub in_order : (length stream.removals.now ≤ stream.removed) ⊎ (stream.added ≡ 0)

-- they are all of the plan
abbrev pub AreAll : PlannedChanges → List Guarded → Type 0
AreAll stream changes = changes ≡ map always (map removal_command stream.removals.now
    ++ map command_of_step stream.additions.now)

-- the plan stays
pub record KeepsPlan (start stream : PlannedChanges) : Type 0 where
  pub removals : stream.removals ≡ start.removals
  pub additions : stream.additions ≡ start.additions
