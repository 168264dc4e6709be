-- What carrying out a plan does to a store.
use Rattle.std.specs.Prelude.{◌≡◌, ◌⊎◌, ℕ, ◌<◌, List, Result}
use Rattle.store_model.specs.declared.refusal.Refusal.TheVariants as refusals
use Rattle.store_model.specs.declared.refusal.Refusal.{Refusal}
use Rattle.store_model.specs.Parameters.{Parameters}
use Rattle.store_model.specs.Trees.{Tree}
use Rattle.store_model.specs.Pages.{page_count}
use Rattle.store_model.specs.Commands.{Command}
use Rattle.disk_model.specs.DiskState.{DiskState}
use Rattle.image_check.specs.declared.fault.ApplyFault.{ApplyFault}
use Rattle.staged_tree.specs.declared.group.GroupAnswer.{GroupAnswer}
use Rattle.staged_tree.specs.declared.group.GroupAnswer.TheVariants as groups
use Rattle.store_core.specs.StoreState.{StoreState}
use Rattle.store_core.specs.StoreCalls.{StepsStore}
use Rattle.synced_trees.specs.Leading.{AreAllowed, led_by}
use Rattle.image_sync.specs.declared.carrying.SyncAnswer.{SyncAnswer}
use Rattle.image_sync.specs.declared.carrying.SyncAnswer.TheVariants as answers

-- The tree that the commands lead to has so many pages, which are more than the slots.
pub record HasNoRoom (p : Parameters) (t : Tree) (commands : List Command) (need slots : ℕ) : Type 0 where
  pub need_is : need ≡ page_count (led_by t commands) p
  pub slots_is : slots ≡ p.slots
  pub more : slots < need

-- How it ends: what is reached is the tree that the commands lead to; or it is the same, for the version alone, or
-- where there is no room.
abbrev pub IsAnswer : Parameters → Tree → List Command → Tree → SyncAnswer → Type 0
IsAnswer p t commands next answers.Done = next ≡ led_by t commands
IsAnswer p t commands next (answers.Refused why) = (next ≡ t) × (why ≡ refusals.Version)
IsAnswer p t commands next (answers.Full need slots) = (next ≡ t) × HasNoRoom p t commands need slots

-- Commands are carried out on a store, in one commit, or nothing is changed. The store's own record says what a crash
-- leaves, what a fault does, and what is counted.
pub record CarriesOut {D : Type 0} (state : D → DiskState) (commands : List Command) (old new : StoreState D)
    (result : Result SyncAnswer ApplyFault) : Type 0 where
  pub next : Tree
  pub reached : AreAllowed old.tree commands → (next ≡ led_by old.tree commands) ⊎ (next ≡ old.tree)
  pub store : StepsStore state next (λ answer. AreAllowed old.tree commands
      → IsAnswer old.params old.tree commands next answer) old new result

-- what a group answers
abbrev pub sync_refused : Refusal → SyncAnswer
sync_refused (refusals.Full need slots) = answers.Full need slots
sync_refused why = answers.Refused why

abbrev pub sync_answer : GroupAnswer → SyncAnswer
sync_answer groups.Done = answers.Done
sync_answer (groups.Refused index why) = sync_refused why
