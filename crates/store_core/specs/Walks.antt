-- Walks over the pairs of a store: where a walk stands, and what a call of it does.
use Rattle.std.specs.Prelude.{ℕ, List, Option, Result}
use Rattle.store_model.specs.Parameters.{Parameters}
use Rattle.store_model.specs.Trees.{Tree}
use Rattle.store_model.specs.Pairs.{Pair, pairs}
use Rattle.disk_model.specs.DiskState.{DiskState, IsObservable}
use Rattle.skip_levels.specs.SearchPath.{below}
use Rattle.image_check.specs.declared.fault.ApplyFault.{ApplyFault}
use Rattle.staged_tree.specs.Walks.{StandsIn, passed_after, IsNextIn}
use Rattle.store_core.specs.declared.walks.PairsWalk.{PairsWalk}
use Rattle.store_core.specs.StoreState.{StoreState}
use Rattle.store_core.specs.StoreCalls.{StepsStore}

-- A walk over the pairs of a tree stands after these, which are the first of them: it gave them, and next it gives the
-- first of the others.
unfoldable pub StandsAfter : Tree → Parameters → List Pair → PairsWalk → Type 0
StandsAfter t p passed walk = StandsIn t p passed walk.stream

-- A store is asked for the next pair of a walk. It stays as it is, and over an observable disk the walk then stands
-- after that pair too; where none is given, and after a fault, it stands where it stood.
pub record WalksOn {D : Type 0} (state : D → DiskState) (old new : StoreState D) (before after : PairsWalk)
    (result : Result (Option Pair) ApplyFault) : Type 0 where
  pub store : StepsStore state old.tree (λ pair. (passed : List Pair) → StandsAfter old.tree old.params passed before
      → IsNextIn (pairs old.tree old.params) passed pair) old new result
  pub stands : IsObservable (state old.disk) → (passed : List Pair) → StandsAfter old.tree old.params passed before
      → StandsAfter old.tree old.params (passed_after passed result) after

-- A store is asked for a walk that stands after the pairs whose keys are below this one. It stays as it is.
abbrev pub StartsWalk : {D : Type 0} → (D → DiskState) → List ℕ → StoreState D → StoreState D
    → Result PairsWalk ApplyFault → Type 0
StartsWalk state key old new result =
    StepsStore state old.tree (StandsAfter old.tree old.params (below key (pairs old.tree old.params))) old new result
