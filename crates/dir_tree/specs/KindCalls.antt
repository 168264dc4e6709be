-- The call that says what stands at a path.
use Rattle.std.specs.Prelude.{◌≡◌, Option, Some, None, Result, IfOk}
use Rattle.store_model.specs.Parameters.{Parameters}
use Rattle.store_model.specs.Paths.{Path}
use Rattle.store_model.specs.Trees.{Tree, Node, node_at}
use Rattle.store_base.specs.declared.store_fault.Fault.{Fault}
use Rattle.store_base.specs.Faults.{disk_faults_after}
use Rattle.ordered_pairs.specs.PairsState.{PairsState, IsObservable}
use Rattle.tree_pairs.specs.TreeCalls.{HoldsTree, KeepsPairs}
use Rattle.tree_pairs.specs.Kinds.{kind_of_node}
use Rattle.tree_pairs.specs.declared.kind.Kind.{Kind as Found}
use Rattle.tree_pairs.specs.declared.kind.Kind.TheVariants as found
use Rattle.dir_tree.specs.declared.kinds.Kind.{Kind}
use Rattle.dir_tree.specs.declared.kinds.Kind.TheVariants as kinds

-- what was found, with a name for nothing
abbrev pub named_kind : Option Found → Kind
named_kind None = kinds.Absent
named_kind (Some found.Directory) = kinds.Dir
named_kind (Some (found.File len)) = kinds.File len

-- a call that says what stands at a path
pub record TellsKind (path : Path) (old new : PairsState) (result : Result Kind Fault) : Type 0 where
  pub faults : new.faults ≡ disk_faults_after old.faults result
  pub keeps : KeepsPairs old new
  pub told : IsObservable old → (t : Tree) (p : Parameters) → HoldsTree old t p
      → IfOk result (λ kind. kind ≡ named_kind (kind_of_node (node_at t path)))
