-- How a stream reads the pairs of its store, whatever steps they make.
use Rattle.std.specs.Prelude.{◌≡◌, ℕ, List, Option, Result, None, OnOk, IfOk, IfErr}
use Rattle.store_model.specs.Pairs.{Pair, pairs}
use Rattle.disk_model.specs.DiskState.{DiskState, IsObservable}
use Rattle.skip_levels.specs.SearchPath.{below}
use Rattle.dump_streams.specs.declared.fault.StreamFault.{StreamFault}
use Rattle.staged_tree.specs.Walks.{IsNextIn, passed_after}
use Rattle.store_core.specs.Walks.{StandsAfter}
use Rattle.store_stream.specs.declared.stream.StoreStream.{StoreStream}
use Rattle.store_stream.specs.StoreStreams.{IsCause}

module _ {D : Type 0} (disk_of : D → DiskState) where
  -- Its store was called. It has the same tree and parameters, no step was made, and the disk told its bytes before if
  -- it does now.
  pub record KeepsTree (old new : StoreStream D) : Type 0 where
    pub steps : new.steps ≡ old.steps
    pub tree : new.store.tree ≡ old.store.tree
    pub params : new.store.params ≡ old.store.params
    pub told : IsObservable (disk_of new.store.disk) → IsObservable (disk_of old.store.disk)

  -- One pair was pulled.
  pub record Pulls (old new : StoreStream D) (result : Result (Option Pair) StreamFault) : Type 0 where
    pub keeps : KeepsTree old new
    pub going : OnOk result (new.fault ≡ None)
    pub next : IsObservable (disk_of new.store.disk) → (passed : List Pair)
        → StandsAfter old.store.tree old.store.params passed old.walk
        → IfOk result (λ pair. IsNextIn (pairs old.store.tree old.store.params) passed pair)
    pub stands : IsObservable (disk_of new.store.disk) → (passed : List Pair)
        → StandsAfter old.store.tree old.store.params passed old.walk
        → StandsAfter old.store.tree old.store.params (passed_after passed result) new.walk
    pub cause : IfErr result (IsCause disk_of new)

  -- The walk was made to stand after the pairs whose keys are below this one.
  pub record Starts (key : List ℕ) (old new : StoreStream D) (result : Result (Unit {0}) StreamFault) : Type 0 where
    pub keeps : KeepsTree old new
    pub going : OnOk result (new.fault ≡ None)
    pub stands : IsObservable (disk_of new.store.disk) → OnOk result
        (StandsAfter old.store.tree old.store.params (below key (pairs old.store.tree old.store.params)) new.walk)
    pub cause : IfErr result (IsCause disk_of new)
