-- What it means to remove paths.
use Rattle.std.specs.Prelude.{◌≡◌, List, [], ◌∷◌, map, Bool, true, false, not, ◌&&◌, Option, Some, None}
use Rattle.std.specs.Prelude.{Contains, if◌then◌else◌}
use Rattle.std.specs.declared.cmp.Ordering.TheVariants.{Less}
use Rattle.std.specs.List.{list_any, AllByRecursion}
use Rattle.std.specs.FinMap.{find}
use Rattle.store_model.specs.declared.refusal.Refusal.{Refusal}
use Rattle.store_model.specs.declared.refusal.Refusal.TheVariants as refusals
use Rattle.store_model.specs.Paths.{Path, path_cmp, same_path, is_at_or_inside}
use Rattle.store_model.specs.Trees.{Tree, exists, is_directory}
use Rattle.store_model.specs.Commands.{Command}
use Rattle.store_model.specs.Commands.Command.{Remove, Prune}
use Rattle.store_model.specs.Steps.{Condition, first_refusal, root_refused, has_child}
use Rattle.tree_changes.specs.Conditional.{Conditional, always_done, done_where_exists}
use Rattle.tree_changes.specs.Meant.{Standing, HasJust}

-- whether a path goes where this one is removed: it is that path, or lies below it where a removal takes all below
abbrev pub goes_with : Bool → Path → Path → Bool
goes_with recursive x q = if recursive then is_at_or_inside x q else same_path x q

-- whether it goes with one of these
abbrev pub goes : Bool → List Path → Path → Bool
goes recursive paths x = list_any (goes_with recursive x) paths

-- what stands after the removal of paths: what stood, but for what goes
abbrev pub removed_at : Bool → List Path → Tree → Standing
removed_at recursive paths t x = if goes recursive paths x then None else find path_cmp x t

-- why a path is not removed, whatever the others are: it is the root; nothing stands there, unless that is passed over;
-- or it is a directory with a child, unless a removal takes all below
abbrev pub removal_conditions : Bool → Bool → Tree → Path → List Condition
removal_conditions recursive forced t q =
    root_refused q ∷ (not forced && not (exists t q), refusals.Missing)
    ∷ (not recursive && (is_directory t q && has_child t q), refusals.NotEmpty) ∷ []

abbrev pub removal_refusal : Bool → Bool → Tree → Path → Option Refusal
removal_refusal recursive forced t q = first_refusal (removal_conditions recursive forced t q)

-- The paths were removed: there is no reason against one of them, and nothing went but them.
pub record IsRemoved (recursive forced : Bool) (paths : List Path) (t u : Tree) : Type 0 where
  pub allowed : AllByRecursion (λ q. removal_refusal recursive forced t q ≡ None) paths
  pub standing : HasJust (removed_at recursive paths t) u

-- One of the paths is not to be removed, for this reason.
pub record IsUnremoved (recursive forced : Bool) (paths : List Path) (t : Tree) (path : Path)
    (why : Refusal) : Type 0 where
  pub named : Contains paths path
  pub reason : removal_refusal recursive forced t path ≡ Some why

-- ---- the steps

-- the change that removes a path
abbrev pub removal : Bool → Path → Command
removal recursive q = if recursive then Prune q else Remove q

abbrev pub removal_step : Bool → Bool → Path → Conditional
removal_step recursive forced q =
    if forced then done_where_exists (removal recursive q) else always_done (removal recursive q)

-- the step at which a removal stops is that of a path that is not to be removed
abbrev pub RefusesRemoval : Bool → Bool → List Path → Tree → Conditional → Refusal → Type 0
RefusesRemoval recursive forced paths t g why = (q : Path) × (g ≡ removal_step recursive forced q)
    × IsUnremoved recursive forced paths t q why

-- whether a path is to be removed before another: with all below it the lower one goes first, and without what is below
-- the upper one. So each is judged by the tree as it was.
abbrev pub IsBefore : Bool → Path → Path → Type 0
IsBefore true q r = path_cmp r q ≡ Less
IsBefore false q r = path_cmp q r ≡ Less

unfoldable pub AreInOrder : Bool → List Path → Type 0
AreInOrder recursive [] = Unit {0}
AreInOrder recursive (q ∷ paths) = AllByRecursion (IsBefore recursive q) paths × AreInOrder recursive paths

abbrev pub removal_steps : Bool → Bool → List Path → List Conditional
removal_steps recursive forced paths = map (removal_step recursive forced) paths
