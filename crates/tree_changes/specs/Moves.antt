-- What it means to move what stands at a path to another.
use Rattle.std.specs.Prelude.{◌≡◌, List, [], ◌∷◌, Bool, not, ◌&&◌, ◌||◌, Option, Some, None}
use Rattle.std.specs.Prelude.{if◌then◌else◌}
use Rattle.std.specs.FinMap.{find}
use Rattle.store_model.specs.declared.refusal.Refusal.{Refusal}
use Rattle.store_model.specs.declared.refusal.Refusal.TheVariants as refusals
use Rattle.store_model.specs.Paths.{Path, root, path_cmp, same_path, is_root, is_inside, is_at_or_inside, replanted}
use Rattle.store_model.specs.Trees.{Tree, exists, is_file}
use Rattle.store_model.specs.Commands.Command.{Remove, Rename}
use Rattle.store_model.specs.Steps.{Condition, first_refusal, missing_refused, parent_refused, outgrows}
use Rattle.tree_changes.specs.Conditional.{Conditional, always_done, done_at_file}
use Rattle.tree_changes.specs.Meant.{Standing, HasJust}

-- What stands after a move: at the new path and below it what stood at the old one and below it, with its attributes;
-- at the old one and below it nothing; and elsewhere what stood. So of a file that stood at the new path nothing stays.
abbrev pub moved_at : Path → Path → Tree → Standing
moved_at from to t x = if is_at_or_inside x to then find path_cmp (replanted to from x) t else
    (if is_at_or_inside x from then None else find path_cmp x t)

-- whether something is in the way at the new path: a file is not, where one is replaced, unless it is the one to move
abbrev pub is_in_the_way : Bool → Path → Path → Tree → Bool
is_in_the_way forced from to t = exists t to && not (forced && is_file t to && not (same_path from to))

-- why a move is refused
abbrev pub move_conditions : Bool → Path → Path → Tree → List Condition
move_conditions forced from to t =
    (is_root from || is_root to, refusals.Root) ∷ missing_refused t from ∷ (is_inside to from, refusals.Inside)
    ∷ parent_refused t to ∷ (is_in_the_way forced from to t, refusals.Exists) ∷ (outgrows t from to, refusals.Path) ∷ []

abbrev pub move_refusal : Bool → Path → Path → Tree → Option Refusal
move_refusal forced from to t = first_refusal (move_conditions forced from to t)

-- the path at which a move is refused for a reason: the old one where it is missing, and else the new one, or the root
abbrev pub move_place : Path → Path → Refusal → Path
move_place from to refusals.Missing = from
move_place from to refusals.Root = root
move_place from to reason = to

-- It was moved.
pub record IsMoved (forced : Bool) (from to : Path) (t u : Tree) : Type 0 where
  pub allowed : move_refusal forced from to t ≡ None
  pub standing : HasJust (moved_at from to t) u

-- the steps: a file that is replaced goes first
abbrev pub move_steps : Bool → Path → Path → List Conditional
move_steps forced from to = if forced && not (same_path from to)
    then done_at_file (Remove to) ∷ always_done (Rename from to) ∷ [] else always_done (Rename from to) ∷ []

-- the step at which it stops is the move itself
abbrev pub RefusesMove : Bool → Path → Path → Tree → Conditional → Refusal → Type 0
RefusesMove forced from to t g why = (g ≡ always_done (Rename from to)) × (move_refusal forced from to t ≡ Some why)

-- The move is refused at this path, for this reason.
pub record IsUnmoved (forced : Bool) (from to : Path) (t : Tree) (path : Path) (why : Refusal) : Type 0 where
  pub place : path ≡ move_place from to why
  pub reason : move_refusal forced from to t ≡ Some why
