-- What the inner calls do that test a command before anything changes.
use Rattle.std.specs.Prelude.{◌≡◌, Bool, true, Option, Result, IfOk}
use Rattle.store_model.specs.declared.refusal.Refusal.{Refusal}
use Rattle.store_model.specs.Parameters.{Parameters}
use Rattle.store_model.specs.Paths.{Path}
use Rattle.store_model.specs.Trees.{Tree, is_directory}
use Rattle.store_model.specs.Commands.{Command}
use Rattle.store_model.specs.Steps.{refusal_of, has_child}
use Rattle.store_base.specs.declared.store_fault.Fault.{Fault}
use Rattle.store_base.specs.Faults.{disk_faults_after}
use Rattle.ordered_pairs.specs.PairsState.{PairsState, IsObservable}
use Rattle.tree_pairs.specs.TreeCalls.{HoldsTree, KeepsPairs}

-- a call that says whether a command is refused, and why
pub record TellsRefusal (command : Command) (old new : PairsState)
    (result : Result (Option Refusal) Fault) : Type 0 where
  pub faults : new.faults ≡ disk_faults_after old.faults result
  pub keeps : KeepsPairs old new
  pub told : IsObservable old → (t : Tree) (p : Parameters) → HoldsTree old t p
      → IfOk result (λ refusal. refusal ≡ refusal_of t command)

-- a call that says whether a directory has a child
pub record TellsChild (path : Path) (old new : PairsState) (result : Result Bool Fault) : Type 0 where
  pub faults : new.faults ≡ disk_faults_after old.faults result
  pub keeps : KeepsPairs old new
  pub told : IsObservable old → (t : Tree) (p : Parameters) → HoldsTree old t p → is_directory t path ≡ true
      → IfOk result (λ found. found ≡ has_child t path)
