-- What it means to make directories.
use Rattle.std.specs.Prelude.{◌≡◌, List, [], ◌∷◌, ◌++◌, map, Bool, true, false, not, ◌&&◌, ◌||◌, Option}
use Rattle.std.specs.Prelude.{Some, None, is_some, if◌then◌else◌}
use Rattle.std.specs.List.{list_any, flat_map}
use Rattle.std.specs.Option.{option_or}
use Rattle.std.specs.FinMap.{find}
use Rattle.store_model.specs.declared.refusal.Refusal.{Refusal}
use Rattle.store_model.specs.declared.refusal.Refusal.TheVariants as refusals
use Rattle.store_model.specs.Paths.{Path, path_cmp, same_path, parent, is_root, is_at_or_inside}
use Rattle.store_model.specs.Trees.{Tree, is_directory_node, node_of, is_file}
use Rattle.store_model.specs.Commands.Command.{Make}
use Rattle.store_model.specs.Steps.{Condition, first_refusal, root_refused}
use Rattle.tree_changes.specs.Conditional.{Conditional, always_done, done_at_no_directory}
use Rattle.tree_changes.specs.Meant.{Standing, HasJust, bare_directory}

-- what stands where directories were made at some paths: what stood, and where nothing did a directory
abbrev pub with_directories : (Path → Bool) → Tree → Standing
with_directories is_made t x = option_or (find path_cmp x t) (if is_made x then Some bare_directory else None)

-- whether a path is one of these
abbrev pub is_among : List Path → Path → Bool
is_among paths x = list_any (same_path x) paths

-- what stands after directories were made at these paths
abbrev pub made_at : List Path → Tree → Standing
made_at paths t = with_directories (is_among paths) t

-- ---- each path in its turn

-- whether a directory stands at a path, as the root always does
abbrev pub has_directory : Standing → Path → Bool
has_directory standing x = is_root x || is_directory_node (node_of (standing x))

-- why a directory is not made at a path after those at others: it is the root, its parent is no directory, or something
-- stands there
abbrev pub making_conditions : Standing → Path → List Condition
making_conditions standing q =
    root_refused q ∷ (not (has_directory standing (parent q)), refusals.Parent)
    ∷ (is_some (standing q), refusals.Exists) ∷ []

abbrev pub making_refusal : List Path → Tree → Path → Option Refusal
making_refusal made t q = first_refusal (making_conditions (made_at made t) q)

-- behind those that were made, there is no reason against one of these in its turn
unfoldable pub AreMakable : Tree → List Path → List Path → Type 0
AreMakable t made [] = Unit {0}
AreMakable t made (q ∷ paths) = (making_refusal made t q ≡ None) × AreMakable t (made ++ q ∷ []) paths

-- The directories were made, in this order.
pub record AreMade (paths : List Path) (t u : Tree) : Type 0 where
  pub allowed : AreMakable t [] paths
  pub standing : HasJust (made_at paths t) u

-- The directory at one of the paths was not to be made behind those before it, for this reason.
pub record IsUnmade (paths : List Path) (t : Tree) (path : Path) (why : Refusal) : Type 0 where
  pub before : List Path
  pub rest : List Path
  pub paths_are : paths ≡ before ++ path ∷ rest
  pub allowed : AreMakable t [] before
  pub reason : making_refusal before t path ≡ Some why

abbrev pub making_steps : List Path → List Conditional
making_steps paths = map (λ q. always_done (Make q)) paths

-- the step at which it stops is that of a path that is not to be made
abbrev pub RefusesMaking : List Path → Tree → Conditional → Refusal → Type 0
RefusesMaking paths t g why = (q : Path) × (g ≡ always_done (Make q)) × IsUnmade paths t q why

-- ---- with the parents

-- whether a path is one of these or leads to one; the root is none to be made
abbrev pub leads_to : List Path → Path → Bool
leads_to paths x = not (is_root x) && list_any (λ q. is_at_or_inside q x) paths

-- what stands after directories were made at these paths and at all that lead there
abbrev pub made_with_parents_at : List Path → Tree → Standing
made_with_parents_at paths t = with_directories (leads_to paths) t

-- The directories were made, with those that lead there: no file stands in the way.
pub record AreMadeWithParents (paths : List Path) (t u : Tree) : Type 0 where
  pub allowed : (x : Path) → leads_to paths x ≡ true → is_file t x ≡ false
  pub standing : HasJust (made_with_parents_at paths t) u

-- A file stands in the way, at one of the paths or on the way to one.
pub record IsInTheWay (paths : List Path) (t : Tree) (path : Path) (why : Refusal) : Type 0 where
  pub leads : leads_to paths path ≡ true
  pub file : is_file t path ≡ true
  pub reason : why ≡ refusals.Exists

-- the paths that lead from one to what lies so below it, from the top on, and that one
unfoldable pub way_from : Path → Path → List Path
way_from front [] = []
way_from front (n ∷ names) = (front ++ n ∷ []) ∷ way_from (front ++ n ∷ []) names

-- the paths that lead to one, and that one; the root is not among them
abbrev pub way_to : Path → List Path
way_to q = way_from [] q

abbrev pub ways_to : List Path → List Path
ways_to paths = flat_map way_to paths

abbrev pub making_parents_steps : List Path → List Conditional
making_parents_steps paths = map (λ q. done_at_no_directory (Make q)) (ways_to paths)

-- the step at which it stops is that of a path at which a file stands
abbrev pub RefusesParents : List Path → Tree → Conditional → Refusal → Type 0
RefusesParents paths t g why = (q : Path) × (g ≡ done_at_no_directory (Make q)) × IsInTheWay paths t q why
