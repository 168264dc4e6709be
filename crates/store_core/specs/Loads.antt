-- What a store answers that is asked for its pairs, or is loaded with those of a tree.
use Rattle.std.specs.Prelude.{◌≡◌, ℕ, List, Option, Result}
use Rattle.store_model.specs.Trees.{Tree}
use Rattle.store_model.specs.Pairs.{Pair, pairs}
use Rattle.disk_model.specs.DiskState.{DiskState}
use Rattle.ordered_pairs.specs.PairsState.{next_pair}
use Rattle.image_check.specs.declared.fault.ApplyFault.{ApplyFault}
use Rattle.staged_tree.specs.declared.load.LoadAnswer.{LoadAnswer}
use Rattle.staged_tree.specs.Loads.{loaded_tree, IsLoadAnswer}
use Rattle.store_core.specs.StoreState.{StoreState}
use Rattle.store_core.specs.StoreCalls.{StepsStore}

-- A store is asked for the first of its pairs whose key is not below this one. It stays as it is.
abbrev pub TellsNextPair : {D : Type 0} → (D → DiskState) → List ℕ → StoreState D → StoreState D
    → Result (Option Pair) ApplyFault → Type 0
TellsNextPair state key old new result =
    StepsStore state old.tree (λ pair. pair ≡ next_pair key (pairs old.tree old.params)) old new result

-- An empty store is loaded with a tree.
abbrev pub Loads : {D : Type 0} → (D → DiskState) → Tree → StoreState D → StoreState D
    → Result LoadAnswer ApplyFault → Type 0
Loads state t old new result =
    StepsStore state (loaded_tree old.params old.tree t) (IsLoadAnswer old.params t) old new result
