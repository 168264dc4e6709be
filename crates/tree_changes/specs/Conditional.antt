-- Changes that are carried out one after another, each where its condition holds: where they lead, and where they stop.
use Rattle.std.specs.Prelude.{◌≡◌, List, [], ◌∷◌, ◌++◌, Bool, true, Option, Some, None, not, is_some, if◌then◌else◌}
use Rattle.store_model.specs.declared.refusal.Refusal.{Refusal}
use Rattle.store_model.specs.declared.refusal.Refusal.TheVariants as refusals
use Rattle.store_model.specs.Parameters.{Parameters}
use Rattle.store_model.specs.Paths.{Path, root}
use Rattle.store_model.specs.Trees.{Tree, Node, node_at, is_directory_node, is_file_node}
use Rattle.store_model.specs.Commands.{Command}
use Rattle.store_model.specs.Commands.Command.{Make, Write, Cut, Rename, Remove, Prune, ListChildren, Read, Space}
use Rattle.store_model.specs.Commands.Command.{Digest, SetAttribute, UnsetAttribute, GetAttribute, ListAttributes}
use Rattle.store_model.specs.Steps.{refusal_of, next_tree, lacks_version}

-- A change, and what has to stand at its path where it is carried out. Else it is passed over.
pub record Conditional : Type 0 where
  pub due : Option Node → Bool
  pub change : Command

-- the conditions: always; where a file stands; where a file stands or nothing; where something stands
abbrev pub always : Option Node → Bool
always _ = true

abbrev pub is_no_directory : Option Node → Bool
is_no_directory node = not (is_directory_node node)

abbrev pub always_done : Command → Conditional
always_done c = record { due = always; change = c }

abbrev pub done_at_file : Command → Conditional
done_at_file c = record { due = is_file_node; change = c }

abbrev pub done_at_no_directory : Command → Conditional
done_at_no_directory c = record { due = is_no_directory; change = c }

abbrev pub done_where_exists : Command → Conditional
done_where_exists c = record { due = is_some; change = c }

-- the path on which a command is; of a move the one from which it moves
abbrev pub path_of : Command → Path
path_of (Make path) = path
path_of (Write path at bytes) = path
path_of (Cut path len) = path
path_of (Rename from to) = from
path_of (Remove path) = path
path_of (Prune path) = path
path_of (ListChildren path) = path
path_of (Read path at len) = path
path_of Space = root
path_of Digest = root
path_of (SetAttribute path a bytes) = path
path_of (UnsetAttribute path a) = path
path_of (GetAttribute path a) = path
path_of (ListAttributes path) = path

abbrev pub is_due : Tree → Conditional → Bool
is_due t g = g.due (node_at t (path_of g.change))

-- why a command is refused, `full` apart
abbrev pub refusal_under : Parameters → Tree → Command → Option Refusal
refusal_under p t c = if lacks_version c p then Some refusals.Version else refusal_of t c

-- why a change is refused: never where it is passed over
abbrev pub why_refused : Parameters → Tree → Conditional → Option Refusal
why_refused p t g = if is_due t g then refusal_under p t g.change else None

-- the tree after a change that is not refused
abbrev pub tree_behind : Tree → Conditional → Tree
tree_behind t g = if is_due t g then next_tree t g.change else t

-- These changes lead from a tree to another: none of them is refused.
unfoldable pub Leads : Parameters → Tree → List Conditional → Tree → Type 0
Leads p t [] u = t ≡ u
Leads p t (g ∷ changes) u = (why_refused p t g ≡ None) × Leads p (tree_behind t g) changes u

-- The change behind these first ones is refused, for this reason.
pub record Stops (p : Parameters) (t : Tree) (changes : List Conditional) (g : Conditional)
    (why : Refusal) : Type 0 where
  pub first : List Conditional
  pub rest : List Conditional
  pub changes_are : changes ≡ first ++ g ∷ rest
  pub tree : Tree
  pub leads : Leads p t first tree
  pub refused : why_refused p tree g ≡ Some why
