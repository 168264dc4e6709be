-- How the slots are found that a settle commits.
use Rattle.std.specs.Prelude.{◌≡◌, ◌≤◌, ℕ, List, Result, IfOk}
use Rattle.std.specs.FinMap as maps
use Rattle.store_base.specs.declared.store_fault.Fault.{Fault}
use Rattle.store_base.specs.Faults.{disk_faults_after}
use Rattle.store_model.specs.Parameters.{Parameters}
use Rattle.store_model.specs.Draws.{Draw}
use Rattle.store_model.specs.PageMaps.{PageMap, IsPageMap, HoldsPages}
use Rattle.disk_model.specs.DiskState.{DiskState, IsObservable}
use Rattle.gate_journal.specs.Changes.{AreChanges}
use Rattle.table_memory.specs.SlotCaches.{changes_of}
use Rattle.table_memory.specs.declared.changed.ChangedSlots.{ChangedSlots}
use Rattle.table_memory.specs.Differences.{AreDifferences}
use Rattle.table_memory.specs.OverlayState.{overlaid}
use Rattle.page_store.specs.PageImages.{table_slots, placed_slot}
use Rattle.table_memory.specs.Staging.{StagedPages, with_changes}

-- StagedPages are carried out on the slots over a disk, and the slots are found that have other bytes in the
-- placement of the pages then than in that of the pages before.
pub record FindsSlots (d : Draw) (p : Parameters) (touched : List (ℕ × List ℕ)) (changes : StagedPages)
    (old new : DiskState) (result : Result ChangedSlots Fault) : Type 0 where
  pub faults : new.faults ≡ disk_faults_after old.faults result
  pub rise : IfOk result (λ found. AreChanges p.slots (changes_of found.slots.items))
  pub differ : (m : PageMap) → IsObservable old → HoldsPages d (table_slots p.slots old.bytes) m
      → (overlaid p.slots touched old).slots ≡ table_slots p.slots old.bytes → IsPageMap (with_changes m changes)
      → maps.len (with_changes m changes) ≤ d.slots
      → IfOk result (λ found. AreDifferences (placed_slot d m)
      (placed_slot d (with_changes m changes)) d.slots (changes_of found.slots.items))
