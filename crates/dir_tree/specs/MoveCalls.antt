-- What the inner calls of a move do.
use Rattle.std.specs.Prelude.{◌≡◌, ◌<◌, ◌^◌, ℕ, IsTrue, List, Bool, true, Some, None, Result, IfOk, OnOk}
use Rattle.std.specs.FinMap.{find, put}
use Rattle.store_model.specs.Parameters.{Parameters}
use Rattle.store_model.specs.Paths.{Path, is_path, is_place, is_at_or_inside, fits_field, replanted, key, key_cmp}
use Rattle.store_model.specs.Pairs.{pairs}
use Rattle.store_model.specs.Trees.{Tree}
use Rattle.store_model.specs.Commands.Command.{Rename}
use Rattle.store_model.specs.Steps.{refusal_of, next_tree, outgrows}
use Rattle.store_base.specs.declared.store_fault.Fault.{Fault}
use Rattle.store_base.specs.Faults.{disk_faults_after}
use Rattle.ordered_pairs.specs.PairsState.{PairsState, IsObservable, without}
use Rattle.tree_pairs.specs.TreeCalls.{HoldsTree, KeepsPairs}

-- a call that says whether a moved path would have a longer field than keys have
pub record TellsGrowth (from to : Path) (old new : PairsState) (result : Result Bool Fault) : Type 0 where
  pub faults : new.faults ≡ disk_faults_after old.faults result
  pub keeps : KeepsPairs old new
  pub told : IsObservable old → (t : Tree) (p : Parameters) → HoldsTree old t p
      → IfOk result (λ grows. grows ≡ outgrows t from to)

-- a call that moves one pair of a subtree
pub record MovesPair {T : Type 0} (k : List ℕ) (from to : Path) (old new : PairsState)
    (result : Result T Fault) : Type 0 where
  pub faults : new.faults ≡ disk_faults_after old.faults result
  pub observable : IsObservable old → OnOk result (IsObservable new)
  pub moved : IsObservable old → (place : Path) (block : ℕ) (value : List ℕ) → IsTrue (is_place place)
      → is_at_or_inside place from ≡ true → block < 2 ^ 32 → k ≡ key place block
      → find key_cmp k old.pairs ≡ Some value → fits_field (replanted from to place) ≡ true
      → OnOk result (new.pairs ≡ put key_cmp (key (replanted from to place) block) value (without k old.pairs))

-- a call that moves the pairs of a subtree, where nothing refuses it
pub record MovesSubtree {T : Type 0} (from to : Path) (old new : PairsState) (result : Result T Fault) : Type 0 where
  pub faults : new.faults ≡ disk_faults_after old.faults result
  pub observable : IsObservable old → OnOk result (IsObservable new)
  pub moved : IsObservable old → IsTrue (is_path to) → (t : Tree) (p : Parameters) → HoldsTree old t p
      → refusal_of t (Rename from to) ≡ None → OnOk result (new.pairs ≡ pairs (next_tree t (Rename from to)) p)
