-- What it means to put the tree of sources over another.
use Rattle.std.specs.Prelude.{◌≡◌, ◌⊎◌, ◌==◌, List, [], ◌∷◌, ◌++◌, length, drop, Bool, true, false, not, ◌&&◌}
use Rattle.std.specs.Prelude.{Option, Some, None, IsTrue, if◌then◌else◌}
use Rattle.std.specs.List.{filter, list_any, AllByRecursion}
use Rattle.std.specs.FinMap.{find}
use Rattle.store_model.specs.declared.refusal.Refusal.{Refusal}
use Rattle.store_model.specs.declared.refusal.Refusal.TheVariants as refusals
use Rattle.store_model.specs.Parameters.{Parameters}
use Rattle.store_model.specs.Paths.{Path, path_cmp, is_inside, is_path, fits_attribute}
use Rattle.store_model.specs.Trees.{Tree, Entry, Attributes, empty_tree, is_directory, is_directory_node}
use Rattle.store_model.specs.Pairs.{has_attributes}
use Rattle.store_model.specs.Commands.{Command as commands}
use Rattle.dump_streams.specs.Dumps.{DumpStep, after_step, dump, step_path}
use Rattle.dump_streams.specs.Dumps.DumpStep.{Make, Write, Set}
use Rattle.tree_changes.specs.Conditional.{Conditional, always_done, done_at_file, done_at_no_directory, path_of}
use Rattle.tree_changes.specs.Meant.{Standing, HasJust, bare_directory}
use Rattle.tree_changes.specs.Folders.{is_among, leads_to, making_parents_steps}

-- ---- the sources at their places

-- What a source's tree has at a path. Attributes of a directory count only where it is listed.
abbrev pub counted : List Path → Path → Option Entry → Option Entry
counted listed y None = None
counted listed y (Some entry) = if is_directory_node (Some entry.node) && not (is_among listed y)
    then Some bare_directory else Some entry

-- the tree of the sources with a path for its root, which is a directory with all that lead to it
abbrev pub placed_at : Path → List Path → Tree → Standing
placed_at to listed u x = if is_inside x to
    then counted listed (drop (length to) x) (find path_cmp (drop (length to) x) u)
    else (if leads_to (to ∷ []) x then Some bare_directory else None)

-- ---- one tree over another

-- What stands at a path where something is put over what stood: a directory stays with its attributes where a
-- directory comes, and of a file nothing stays, no byte and no attribute.
abbrev pub over : Option Entry → Option Entry → Option Entry
over old None = old
over None (Some new) = Some new
over (Some old) (Some new) = if is_directory_node (Some old.node) && is_directory_node (Some new.node)
    then Some old else Some new

abbrev pub put_at : Path → List Path → Tree → Tree → Standing
put_at to listed u t x = over (find path_cmp x t) (placed_at to listed u x)

-- ---- what is refused

-- why what stands at a path is not replaced by what comes, by whether each is a directory: one is a directory and the
-- other a file, or files are not replaced
abbrev pub clash_of_kinds : Bool → Bool → Bool → Option Refusal
clash_of_kinds replaces true true = None
clash_of_kinds replaces true false = Some refusals.Kind
clash_of_kinds replaces false true = Some refusals.Exists
clash_of_kinds replaces false false = if replaces then None else Some refusals.Exists

abbrev pub clash : Bool → Option Entry → Option Entry → Option Refusal
clash replaces old None = None
clash replaces None (Some new) = None
clash replaces (Some old) (Some new) =
    clash_of_kinds replaces (is_directory_node (Some old.node)) (is_directory_node (Some new.node))

-- an attribute that comes has no room: the image's version has none, or the path is too long for it
abbrev pub has_no_room : Parameters → Path → Attributes → Refusal → Type 0
has_no_room p x attributes why =
    ((why ≡ refusals.Version) × (has_attributes p.version ≡ false) × (list_any (λ a. true) attributes ≡ true))
    ⊎ ((why ≡ refusals.Path) × (list_any (λ a. not (fits_attribute x a.0)) attributes ≡ true))

-- whether what comes leaves what stood as it is
abbrev pub is_merged : Option Entry → Entry → Bool
is_merged None new = false
is_merged (Some old) new = is_directory_node (Some old.node) && is_directory_node (Some new.node)

-- What comes to a path is not put there, for this reason.
pub record IsUnput (replaces : Bool) (p : Parameters) (to : Path) (listed : List Path) (u t : Tree) (path : Path)
    (why : Refusal) : Type 0 where
  pub new : Entry
  pub comes : placed_at to listed u path ≡ Some new
  pub reason : (clash replaces (find path_cmp path t) (Some new) ≡ Some why)
      ⊎ ((is_merged (find path_cmp path t) new ≡ false) × has_no_room p path new.attributes why)

-- The tree of the sources was put over the tree, at its place.
pub record IsPut (replaces : Bool) (to : Path) (listed : List Path) (u t w : Tree) : Type 0 where
  pub allowed : (x : Path) → clash replaces (find path_cmp x t) (placed_at to listed u x) ≡ None
  pub standing : HasJust (put_at to listed u t) w

-- ---- the steps

-- the change that a file's first step begins with: the file that stood there goes, or is in the way
abbrev pub making_room : Bool → Path → Conditional
making_room replaces q = if replaces then done_at_file (commands.Remove q) else done_at_file (commands.Make q)

-- The changes of a step of the sources' dump, at its place, where the tree holds what came before it. Attributes of a
-- directory are set where it is one of the fresh ones.
abbrev pub put_step : Bool → Path → List Path → Tree → DumpStep → List Conditional
put_step replaces to fresh u (Make y) = done_at_no_directory (commands.Make (to ++ y)) ∷ []
put_step replaces to fresh u (Write y at bytes) = if at == 0
    then making_room replaces (to ++ y) ∷ always_done (commands.Write (to ++ y) at bytes) ∷ []
    else always_done (commands.Write (to ++ y) at bytes) ∷ []
put_step replaces to fresh u (Set y name bytes) = if is_directory u y && not (is_among fresh y)
    then [] else always_done (commands.SetAttribute (to ++ y) name bytes) ∷ []

unfoldable pub put_steps : Bool → Path → List Path → Tree → List DumpStep → List Conditional
put_steps replaces to fresh u [] = []
put_steps replaces to fresh u (s ∷ steps) =
    put_step replaces to fresh u s ++ put_steps replaces to fresh (after_step u s) steps

-- the listed directories at whose places none stands
abbrev pub fresh_of : Path → List Path → Tree → List Path
fresh_of to listed t = filter (λ y. not (is_directory t (to ++ y))) listed

-- each path of the sources has room behind theirs
abbrev pub HasRoomBelow : Path → Tree → Type 0
HasRoomBelow to u = AllByRecursion (λ s. IsTrue (is_path (to ++ step_path s))) (dump u)

-- all changes of the dump of a tree: first the path is made for it
abbrev pub put_changes : Bool → Path → List Path → Tree → List Conditional
put_changes replaces to fresh u =
    making_parents_steps (to ∷ []) ++ put_steps replaces to fresh empty_tree (dump u)

-- the change at which it stops is on a path that is not put there
abbrev pub RefusesPut : Bool → Parameters → Path → List Path → Tree → Tree → Conditional → Refusal → Type 0
RefusesPut replaces p to listed u t g why = IsUnput replaces p to listed u t (path_of g.change) why
