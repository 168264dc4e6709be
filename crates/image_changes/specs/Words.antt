-- What a word for people does to a store.
use Rattle.std.specs.Prelude.{◌≡◌, ◌⊎◌, ℕ, ◌<◌, Result}
use Rattle.store_model.specs.declared.refusal.Refusal.{Refusal}
use Rattle.store_model.specs.Parameters.{Parameters}
use Rattle.store_model.specs.Paths.{Path}
use Rattle.store_model.specs.Trees.{Tree}
use Rattle.store_model.specs.Pages.{page_count}
use Rattle.disk_model.specs.DiskState.{DiskState, IsObservable}
use Rattle.image_check.specs.declared.fault.ApplyFault.{ApplyFault}
use Rattle.store_core.specs.StoreState.{StoreState}
use Rattle.store_core.specs.StoreCalls.{StepsStore}
use Rattle.image_changes.specs.declared.outcome.Outcome.{Outcome}
use Rattle.image_changes.specs.declared.outcome.Outcome.TheVariants as outcomes

-- The tree that is meant has so many pages, which are more than the slots.
pub record HasNoRoom (means : Tree → Tree → Type 0) (p : Parameters) (t : Tree) (need slots : ℕ) : Type 0 where
  pub tree : Tree
  pub meant : means t tree
  pub need_is : need ≡ page_count tree p
  pub slots_is : slots ≡ p.slots
  pub more : slots < need

-- How a word ended that leads from one tree to the next: that is the tree that is meant, or it is the same where the
-- word is refused at a path, or where the tree that is meant has no room.
abbrev pub IsOutcome : (Tree → Tree → Type 0) → (Tree → Path → Refusal → Type 0) → Parameters → Tree → Tree → Outcome
    → Type 0
IsOutcome means refuses p t next outcomes.Done = means t next
IsOutcome means refuses p t next (outcomes.Refused path reason) = (next ≡ t) × refuses t path reason
IsOutcome means refuses p t next (outcomes.Full need slots) = (next ≡ t) × HasNoRoom means p t need slots

-- A word is carried out on a store, in one commit, or nothing is changed. The store's own record says what a crash
-- leaves, what a fault does, and what is counted.
pub record Changes {D : Type 0} (state : D → DiskState) (means : Tree → Tree → Type 0)
    (refuses : Tree → Path → Refusal → Type 0) (old new : StoreState D)
    (result : Result Outcome ApplyFault) : Type 0 where
  pub next : Tree
  -- over an observable disk, the tree that is reached is the one that is meant, or the same
  pub reached : IsObservable (state old.disk) → means old.tree next ⊎ (next ≡ old.tree)
  pub store : StepsStore state next (IsOutcome means refuses old.params old.tree next) old new result
