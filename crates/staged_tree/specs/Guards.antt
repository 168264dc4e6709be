-- Changes that are each carried out only where a guard lets them be: by what stands at their path.
use Rattle.std.specs.Prelude.{◌≡◌, Bool, true, [], not, Option, is_some, Result, IfOk}
use Rattle.store_base.specs.declared.store_fault.Fault.{Fault}
use Rattle.store_base.specs.Faults.{disk_faults_after}
use Rattle.store_model.specs.Parameters.{Parameters}
use Rattle.store_model.specs.Paths.{Path}
use Rattle.store_model.specs.Trees.{Tree, Node, node_at, is_file_node, is_directory_node}
use Rattle.store_model.specs.Commands.{Command}
use Rattle.store_model.specs.Commands.Command.{Make, Write, Cut, Rename, Remove, Prune, ListChildren, Read, Space}
use Rattle.store_model.specs.Commands.Command.{Digest, SetAttribute, UnsetAttribute, GetAttribute, ListAttributes}
use Rattle.ordered_pairs.specs.PairsState.{PairsState, IsObservable}
use Rattle.tree_pairs.specs.TreeCalls.{HoldsTree, KeepsPairs}
use Rattle.staged_tree.specs.declared.guards.When.{When}
use Rattle.staged_tree.specs.declared.guards.When.TheVariants as whens

-- whether a change is carried out at whose path this stands, or nothing
abbrev pub is_due_at : When → Option Node → Bool
is_due_at whens.Always found = true
is_due_at whens.IsFile found = is_file_node found
is_due_at whens.NotDirectory found = not (is_directory_node found)
is_due_at whens.Exists found = is_some found

-- the path that a command is on: of a move the one from which it moves, and the root where it names none
abbrev pub path_of : Command → Path
path_of (Make path) = path
path_of (Write path at bytes) = path
path_of (Cut path len) = path
path_of (Rename from to) = from
path_of (Remove path) = path
path_of (Prune path) = path
path_of (ListChildren path) = path
path_of (Read path at len) = path
path_of Space = []
path_of Digest = []
path_of (SetAttribute path a bytes) = path
path_of (UnsetAttribute path a) = path
path_of (GetAttribute path a) = path
path_of (ListAttributes path) = path

-- a change, and when it is carried out
pub record Guarded : Type 0 where
  pub when : When
  pub change : Command

-- whether it is carried out on a tree; where it is not it is passed over
abbrev pub is_due : Tree → Guarded → Bool
is_due t g = is_due_at g.when (node_at t (path_of g.change))

-- a call that says whether a change at this path is carried out on the tree that the list holds
pub record TellsDue (when : When) (path : Path) (old new : PairsState) (result : Result Bool Fault) : Type 0 where
  pub faults : new.faults ≡ disk_faults_after old.faults result
  pub keeps : KeepsPairs old new
  pub told : IsObservable old → (t : Tree) (p : Parameters) → HoldsTree old t p
      → IfOk result (λ due. due ≡ is_due_at when (node_at t path))
