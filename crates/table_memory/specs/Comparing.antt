-- How the slots are found that were written and have other bytes in the table of a disk.
use Rattle.std.specs.Prelude.{◌≡◌, ℕ, List, Result, IfOk}
use Rattle.store_base.specs.declared.store_fault.Fault.{Fault}
use Rattle.store_base.specs.Faults.{disk_faults_after}
use Rattle.disk_model.specs.DiskState.{DiskState, IsObservable}
use Rattle.gate_journal.specs.Changes.{AreChanges}
use Rattle.gate_journal.specs.Disks.{KeepsDisk}
use Rattle.gate_journal.specs.Phases.{table_slot}
use Rattle.gate_journal.specs.Places.{ReadsOnly}
use Rattle.table_memory.specs.SlotCaches.{Kept, IsSlotCacheOf, changes_of}
use Rattle.table_memory.specs.OverlayState.{slot_over}
use Rattle.table_memory.specs.declared.changed.ChangedSlots.{ChangedSlots}
use Rattle.table_memory.specs.Differences.{AreDifferences}

-- Slots that were written are compared with the table of a disk, and with what is kept of it.
pub record FindsChanges (slots : ℕ) (written : List (ℕ × List ℕ)) (old new : DiskState) (cache : Kept)
    (result : Result ChangedSlots Fault) : Type 0 where
  pub kept : KeepsDisk old new
  pub cached : IsSlotCacheOf slots new cache
  pub faults : new.faults ≡ disk_faults_after old.faults result
  pub reads : IsObservable old → ReadsOnly old new
  pub rise : IfOk result (λ found. AreChanges slots (changes_of found.slots.items))
  pub differ : IsObservable old
      → IfOk result (λ found. AreDifferences (table_slot slots old.bytes) (slot_over slots written old.bytes) slots
      (changes_of found.slots.items))
