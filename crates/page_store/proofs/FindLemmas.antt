-- The slots in which the table differs once changes are carried out.
use Rattle.std.proofs.Common.{◌≡◌, ℕ, ◌+◌, ◌<◌, List, [], map, Option, Some, None, Result, Ok, Err, slice_get, sym, ap}
use Rattle.std.proofs.Common.{subst, ◌∙◌, arith}
use Rattle.std.specs.Option.{option_map, option_map_or}
use Rattle.std.proofs.lemmas.Option.{same_Some, slice_get-map}
use Rattle.store_base.specs.declared.store_fault.Fault.{Fault}
use Rattle.store_base.specs.Faults.{disk_faults_after}
use Rattle.store_model.specs.Lists.{numbers_below}
use Rattle.store_model.specs.Parameters.{Parameters}
use Rattle.store_model.specs.Draws.{Draw}
use Rattle.store_model.specs.Pages.{Page}
use Rattle.store_model.specs.Placement.{place}
use Rattle.store_model.specs.Images.{slot_bytes}
use Rattle.store_model.specs.PageMaps.{PageMap, pages_of_map, HoldsPages}
use Rattle.disk_model.specs.DiskState.{DiskState}
use Rattle.gate_journal.specs.Changes.{AreChanges}
use Rattle.gate_journal.specs.Phases.{table_slot}
use Rattle.gate_journal.specs.ViewState.{KeepsView}
use Rattle.table_memory.specs.declared.changed.ChangedSlots.{ChangedSlots}
use Rattle.page_store.specs.Carrying.{LaysChanges}
use Rattle.table_memory.specs.Differences.{AreDifferences}
use Rattle.table_memory.specs.OverlayState.{slot_over, overlaid}
use Rattle.page_store.specs.PageImages.{table_slots, placed_slot}
use Rattle.table_memory.specs.SlotCaches.{Kept, changes_of}
use Rattle.table_memory.specs.Comparing.{FindsChanges}
use Rattle.page_store.specs.Preparing.{FindsSlots}
use Rattle.table_memory.specs.Staging.{StagedPages, with_changes}
use Rattle.table_memory.proofs.DifferLemmas.{differences_as}
use Rattle.page_store.proofs.OverlayLemmas.{get_number}

-- the bytes of slots that hold a map are those of its placement
pub placed : (d : Draw) (slots : ℕ) (f : ℕ → List ℕ) (m : PageMap) → HoldsPages d (map f (numbers_below slots)) m
    → (i : ℕ) → i < slots → f i ≡ placed_slot d m i
placed d slots f m held i below = by_slot (slice_get (place d (pages_of_map m)) i) there
  where
    there : option_map slot_bytes (slice_get (place d (pages_of_map m)) i) ≡ Some (f i)
    there =
        let here : 0 + i ≡ i = omega arith in
        sym (slice_get-map slot_bytes (place d (pages_of_map m)) i)
        ∙ sym (ap (λ (ss : List (List ℕ)). slice_get ss i) held.slots_are) ∙ get_number f 0 slots i below
        ∙ ap (λ (n : ℕ). Some (f n)) here

    by_slot : (o : Option (Option Page)) → option_map slot_bytes o ≡ Some (f i) → f i ≡ option_map_or slot_bytes o []
    by_slot None e = absurd (cc)
    by_slot (Some content) e = sym (same_Some (slot_bytes content) (f i) e)

module _ (d : Draw) (p q : Parameters) (touched later : List (ℕ × List ℕ)) (changes : StagedPages)
    (old mid new : DiskState) (value : Unit {0}) (drawn : p.slots ≡ d.slots)
    (carried : LaysChanges d (overlaid p.slots touched old) (overlaid q.slots later mid) changes (Ok value))
    (kept : KeepsView p q old mid) where
  slots_kept : q.slots ≡ p.slots
  slots_kept = ap (λ (r : Parameters). r.slots) kept.params

  -- the slots that were written have been compared with those of the disk
  pub slots_found : (cache : Kept) (result : Result ChangedSlots Fault)
      → FindsChanges q.slots later mid new cache result → FindsSlots d p touched changes old new result
  slots_found cache (Ok found) finds = record {
    faults = finds.faults ∙ carried.calls.faults;
    rise = subst (λ (n : ℕ). AreChanges n (changes_of found.slots.items)) slots_kept finds.rise;
    differ = λ m observable held untouched valid few.
        let held_mid : HoldsPages d (table_slots q.slots mid.bytes) m =
        subst (λ (n : ℕ). HoldsPages d (table_slots n mid.bytes) m) (sym slots_kept)
        (subst (λ (bytes : List ℕ). HoldsPages d (table_slots p.slots bytes) m)
        (sym (kept.reads observable).bytes) held) in
        let held_after : HoldsPages d (overlaid q.slots later mid).slots (with_changes m changes) =
        carried.carried m observable (subst (λ (ss : List (List ℕ)). HoldsPages d ss m) (sym untouched) held) valid
        few in
        subst (λ (n : ℕ). AreDifferences (placed_slot d m) (placed_slot d (with_changes m changes)) n
        (changes_of found.slots.items)) (slots_kept ∙ drawn)
        (differences_as (table_slot q.slots mid.bytes) (slot_over q.slots later mid.bytes) (placed_slot d m)
        (placed_slot d (with_changes m changes)) q.slots (changes_of found.slots.items)
        finds.rise (placed d q.slots (table_slot q.slots mid.bytes) m held_mid)
        (placed d q.slots (slot_over q.slots later mid.bytes) (with_changes m changes) held_after)
        (finds.differ (kept.observable ∙ observable)));
  }
  slots_found cache (Err fault) finds = record {
    faults = finds.faults ∙ ap (λ (n : ℕ). disk_faults_after {T = ChangedSlots} n (Err fault)) carried.calls.faults;
    rise = tt;
    differ = λ m observable held untouched valid few. tt;
  }
