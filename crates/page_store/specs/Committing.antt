-- How slots are committed.
use Rattle.std.specs.Prelude.{◌≡◌, ℕ, Result, OnOk, OnErr}
use Rattle.disk_model.specs.DiskState.{DiskState, IsObservable}
use Rattle.disk_model.specs.DiskCalls.{Rose}
use Rattle.gate_journal.specs.Changes as journal
use Rattle.gate_journal.specs.Costs.{MadeAtMost}
use Rattle.gate_journal.specs.Places.{AreCalls, Made}
use Rattle.table_memory.specs.SlotCaches.{Kept, IsSlotCacheOf}
use Rattle.page_store.specs.declared.commit_kind.CommitKind.{CommitKind}
use Rattle.page_store.specs.declared.commit_kind.CommitKind.TheVariants.{Plain}
use Rattle.page_store.specs.CommitKinds.{committed, writes_by, syncs_by}

-- Changed slots are committed by a commit of this kind, as the journal does it.
pub record CommitsAs {T E : Type 0} (kind : CommitKind) (slots : ℕ) (changes : journal.Changes) (old new : DiskState)
    (result : Result T E) : Type 0 where
  pub commits : journal.CommitsTo slots (committed kind slots changes old.bytes) old new result
  pub made : OnOk result (Made (writes_by kind changes.count) (syncs_by kind changes.count) old new)
  pub limit : MadeAtMost (writes_by kind changes.count) (syncs_by kind changes.count) old new
  pub wrote : OnErr result (Rose old.writes new.writes)

-- They are committed so, and what is kept of the table are its slots then too.
pub record CommitsSlots {D T E : Type 0} (kind : CommitKind) (state : D → DiskState) (slots : ℕ)
    (changes : journal.Changes) (old new : D) (cache : Kept) (result : Result T E) : Type 0 where
  pub calls : AreCalls (state old) (state new) result
  pub observed : IsObservable (state old) → CommitsAs kind slots changes (state old) (state new) result
  pub none : kind ≡ Plain → changes.count ≡ 0 → new ≡ old
  pub cached : IsSlotCacheOf slots (state new) cache
