-- What the word does to a store that puts the tree of a source over the store's.
use Rattle.std.specs.Prelude.{◌≡◌, ◌⊎◌, List, ◌++◌, Bool, Result, Ok, Err}
use Rattle.store_model.specs.declared.refusal.Refusal.{Refusal}
use Rattle.store_model.specs.Parameters.{Parameters}
use Rattle.store_model.specs.Paths.{Path}
use Rattle.store_model.specs.Trees.{Tree}
use Rattle.disk_model.specs.DiskState.{DiskState, IsObservable}
use Rattle.image_check.specs.declared.fault.ApplyFault.{ApplyFault}
use Rattle.store_core.specs.StoreState.{StoreState}
use Rattle.store_core.specs.StoreCalls.{StepsStore}
use Rattle.dump_streams.specs.Dumps.{DumpStep, dump}
use Rattle.tree_changes.specs.Puts.{IsPut, IsUnput}
use Rattle.image_changes.specs.declared.outcome.Outcome.{Outcome}
use Rattle.image_changes.specs.Words.{IsOutcome}
use Rattle.image_puts.specs.declared.fault.PutFault.{PutFault}

-- the whole tree of the source was put over the tree
pub record IsPutWhole (whole : Tree → Type 0) (replaces : Bool) (to : Path) (listed : List Path) (t w : Tree) : Type 0
  where
    pub tree : Tree
    pub whole_is : whole tree
    pub put : IsPut replaces to listed tree t w

-- By the first steps of what came of the source, what comes to the path is not put there.
pub record IsPutRefused (came : Tree → Type 0) (replaces : Bool) (p : Parameters) (to : Path) (listed : List Path)
    (t : Tree) (path : Path) (why : Refusal) : Type 0 where
  pub tree : Tree
  pub came_is : came tree
  pub front : Tree
  pub rest : List DumpStep
  pub front_is : dump tree ≡ dump front ++ rest
  pub unput : IsUnput replaces p to listed front t path why

-- How it ended; where the source failed, the tree is the same.
abbrev pub IsPutOutcome : (Tree → Tree → Type 0) → (Tree → Path → Refusal → Type 0) → (PutFault → Type 0) → Parameters
    → Tree → Tree → Result Outcome PutFault → Type 0
IsPutOutcome means refuses fails p t next (Ok outcome) = IsOutcome means refuses p t next outcome
IsPutOutcome means refuses fails p t next (Err fault) = (next ≡ t) × fails fault

-- It is carried out on a store, in one commit, or nothing is changed. The store's own record says what a crash leaves,
-- what a fault does, and what is counted.
pub record PutsOver {D : Type 0} (state : D → DiskState) (means : Tree → Tree → Type 0)
    (refuses : Tree → Path → Refusal → Type 0) (fails : PutFault → Type 0) (old new : StoreState D)
    (result : Result (Result Outcome PutFault) ApplyFault) : Type 0 where
  pub next : Tree
  -- over an observable disk, the tree that is reached is the one that is meant, or the same
  pub reached : IsObservable (state old.disk) → means old.tree next ⊎ (next ≡ old.tree)
  pub store : StepsStore state next (IsPutOutcome means refuses fails old.params old.tree next) old new result
