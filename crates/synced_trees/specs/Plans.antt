-- What is planned to lead from one tree to what is told.
use Rattle.std.specs.Prelude.{◌≡◌, List, ◌++◌, map, Bool, true, false, ◌&&◌, Option, Some, None}
use Rattle.std.specs.FinMap.{find}
use Rattle.store_model.specs.Paths.{Path, path_cmp, parent}
use Rattle.store_model.specs.Trees.{Tree}
use Rattle.store_model.specs.Commands.{Command}
use Rattle.dump_streams.specs.Dumps.{command_of_step}
use Rattle.dump_streams.specs.declared.fault.StreamFault.{StreamFault}
use Rattle.dump_diff.specs.declared.difference.Mark.{Mark}
use Rattle.dump_diff.specs.declared.difference.Mark.TheVariants as marks
use Rattle.dump_diff.specs.declared.losses.Losses.{Losses}
use Rattle.dump_diff.specs.Gains.{takes}
use Rattle.dump_diff.specs.Scripts.{removal_command, sides_of}
use Rattle.dump_diff.specs.declared.differences.Differences.{Differences}
use Rattle.dump_diff.specs.Differences.{AreDifferences, marks_of}
use Rattle.dump_diff.specs.Causes.{IsCause}
use Rattle.synced_trees.specs.declared.plan.SyncPlan.{SyncPlan}
use Rattle.synced_trees.specs.declared.plan.PlanFault.{PlanFault}
use Rattle.synced_trees.specs.declared.plan.PlanFault.TheVariants as faults
use Rattle.synced_trees.specs.Leading.{led_by}
use Rattle.synced_trees.specs.Syncing.{hides}
use Rattle.synced_trees.specs.Taken.{taken_marks, taken_sides, LeadsTo}

-- the commands of a plan: what takes away, and then what adds
abbrev pub plan_commands : SyncPlan → List Command
plan_commands plan = map removal_command plan.removals.items ++ map command_of_step plan.additions.items

-- A plan leads from a tree to what is told, and what it says to change are the differences of the tree before and the
-- one after.
pub record PlansFor (losses : Losses) (old told : Tree) (plan : SyncPlan) : Type 0 where
  pub leads : LeadsTo losses.paths (takes losses) old told (plan_commands plan)
  pub changes : AreDifferences old (led_by old (plan_commands plan)) (marks_of plan.changed.paths.items)

-- The streams told these trees, and the plan leads from the first to what the second tells.
pub record IsPlanOf (losses : Losses) (whole whole' : Tree → Type 0) (plan : SyncPlan) : Type 0 where
  pub old : Tree
  pub told : Tree
  pub first : whole old
  pub second : whole' told
  pub plans : PlansFor losses old told plan

-- The streams told these trees, and nothing is planned, since the first has a directory at this path with something
-- below it, and the second a file.
pub record IsHidden (losses : Losses) (whole whole' : Tree → Type 0) (p : Path) : Type 0 where
  pub old : Tree
  pub told : Tree
  pub first : whole old
  pub second : whole' told
  pub keeps : losses.paths ≡ false
  pub hidden : hides old told p ≡ true

-- why nothing is planned
abbrev pub IsUnplanned : Losses → (Tree → Type 0) → (Tree → Type 0) → (Tree → StreamFault → Type 0) → (Tree → Type 0)
    → (Tree → Type 0) → (Tree → StreamFault → Type 0) → PlanFault → Type 0
IsUnplanned losses came whole fails came' whole' fails' (faults.Compare cause) =
    IsCause came whole fails came' whole' fails' cause
IsUnplanned losses came whole fails came' whole' fails' (faults.Hidden p) = IsHidden losses whole whole' p

-- ---- by the marks

abbrev pub is_kind : Option Mark → Bool
is_kind None = false
is_kind (Some marks.Kind) = true
is_kind (Some marks.Removed) = false
is_kind (Some marks.Added) = false
is_kind (Some marks.Bytes) = false
is_kind (Some marks.Attributes) = false

abbrev pub is_removed : Mark → Bool
is_removed marks.Removed = true
is_removed marks.Added = false
is_removed marks.Kind = false
is_removed marks.Bytes = false
is_removed marks.Attributes = false

-- whether a path goes whose parent becomes of another kind
abbrev pub is_hidden_by : List (Path × Mark) → Path × Mark → Bool
is_hidden_by paths e = is_removed e.1 && is_kind (find path_cmp (parent e.0) paths)

-- something stood below this path, which becomes of another kind
pub record IsHiding (paths : List (Path × Mark)) (p : Path) : Type 0 where
  pub below : Path
  pub gone : find path_cmp below paths ≡ Some marks.Removed
  pub parent_is : p ≡ parent below
  pub kind : is_kind (find path_cmp p paths) ≡ true

-- and below none did
abbrev pub NoneHides : List (Path × Mark) → Type 0
NoneHides paths = (below : Path) → find path_cmp below paths ≡ Some marks.Removed
    → is_kind (find path_cmp (parent below) paths) ≡ true → ⊥

-- these are the differences that count
pub record Counts (losses : Losses) (found counted : Differences) : Type 0 where
  pub marks : marks_of counted.paths.items
      ≡ taken_marks losses.paths (takes losses) (marks_of found.paths.items) (sides_of found.attributes.items)
  pub sides : sides_of counted.attributes.items ≡ taken_sides (takes losses) (sides_of found.attributes.items)
  pub none : losses.paths ≡ false → NoneHides (marks_of found.paths.items)

-- a search that ends by what is hidden, and by nothing else
abbrev pub Hides : Bool → List (Path × Mark) → PlanFault → Type 0
Hides deletes paths (faults.Hidden p) = (deletes ≡ false) × IsHiding paths p
Hides deletes paths (faults.Compare cause) = ⊥
