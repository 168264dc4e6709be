-- What is found of a label in slots, and in the changes over them.
use Rattle.std.specs.Prelude.{◌≡◌, ◌↔◌, ℕ, ◌<◌, Bool, Option, None, Result, IsNone, IfSome, IfOk}
use Rattle.std.specs.FinMap as maps
use Rattle.store_model.specs.Labels.{Label, label_bytes}
use Rattle.store_model.specs.Draws.{Draw}
use Rattle.store_model.specs.PageMaps.{PageMap, page_at, HoldsPages}
use Rattle.store_base.specs.declared.store_fault.Fault.{Fault}
use Rattle.store_base.specs.SlotsState.{SlotsState, IsObservable, AreSlotCalls}
use Rattle.ordered_table.specs.Tables.{IsSlotWith}
use Rattle.table_memory.specs.Staging.{StagedPages, with_changes}

-- a call that only reads slots
pub record Consults {T : Type 0} (old new : SlotsState) (result : Result T Fault) : Type 0 where
  pub calls : AreSlotCalls old new result
  pub reads : IsObservable old → new.slots ≡ old.slots

-- the slot of a label, in slots that hold the pages of a map
pub record IsLocated (old : SlotsState) (m : PageMap) (l : Label) (result : Result (Option ℕ) Fault) : Type 0 where
  pub absent : IfOk result (λ found. IsNone found ↔ (page_at m l ≡ None))
  pub slot : IfOk result (λ found. IfSome found (IsSlotWith old.slots m l))

-- a search for the slot of a label
pub record Locates (d : Draw) (old new : SlotsState) (l : Label) (result : Result (Option ℕ) Fault) : Type 0 where
  pub calls : AreSlotCalls old new result
  pub reads : IsObservable old → new.slots ≡ old.slots
  pub within : IfOk result (λ found. IfSome found (λ at. at < old.count))
  pub found : (m : PageMap) → IsObservable old → HoldsPages d old.slots m → IsLocated old m l result

-- a look into the slot where the page of a label was found last: the page is there, or nothing is told
pub record LocatesAgain (d : Draw) (old new : SlotsState) (l : Label) (result : Result (Option ℕ) Fault) : Type 0 where
  pub calls : AreSlotCalls old new result
  pub reads : IsObservable old → new.slots ≡ old.slots
  pub within : IfOk result (λ found. IfSome found (λ at. at < old.count))
  pub found : (m : PageMap) → IsObservable old → HoldsPages d old.slots m
      → IfOk result (λ found. IfSome found (IsSlotWith old.slots m l))

-- a search that tells whether there is a page under a label, with changes
pub record LooksUp (d : Draw) (old new : SlotsState) (changes : StagedPages) (l : Label)
    (result : Result Bool Fault) : Type 0 where
  pub calls : AreSlotCalls old new result
  pub reads : IsObservable old → new.slots ≡ old.slots
  pub found : (m : PageMap) → IsObservable old → HoldsPages d old.slots m
      → IfOk result (λ is_there. is_there ≡ maps.contains_key (with_changes m changes) (label_bytes l))
