-- What the calls on an ordered table answer, and what they leave.
use Rattle.std.specs.Prelude.{◌≡◌, ◌↔◌, ℕ, ◌+◌, ◌<◌, ◌≤◌, min, List, Bool, false, IsTrue, Option, None, Some, Result}
use Rattle.std.specs.Prelude.{IsNone, IfSome, IfOk, OnOk, slice_get}
use Rattle.std.specs.List.{prefix_len}
use Rattle.std.specs.declared.cmp.Ordering.{Ordering}
use Rattle.std.specs.Ordering.{nat_cmp, is_lt}
use Rattle.std.specs.Cmp.Lexicographic.{slice_cmp}
use Rattle.std.specs.FinMap as maps
use Rattle.store_model.specs.Labels.{Label, label_bytes, label_cmp}
use Rattle.store_model.specs.Draws.{Draw}
use Rattle.store_model.specs.Pages.{Page, IsPage}
use Rattle.store_model.specs.Placement.{Table, probes, place}
use Rattle.store_model.specs.Images.{slot_bytes}
use Rattle.store_model.specs.PageMaps.{PageMap, page_at, with_page, without_page, pages_of_map, HoldsPages}
use Rattle.store_base.specs.declared.store_fault.Fault.{Fault}
use Rattle.store_base.specs.SlotsState.{SlotsState, IsObservable, AreSlotCalls}

-- a search for the label goes on past what a slot holds: a page of smaller label
abbrev pub is_passed : Label → Option (Option Page) → Bool
is_passed l None = false
is_passed l (Some None) = false
is_passed l (Some (Some page)) = is_lt (label_cmp page.label l)

-- how many slots a search reads: those of the probe sequence that it goes past and the one that ends it, or all where
-- none does
unfoldable pub looks : Draw → Table → Label → ℕ
looks d table l = min d.slots (1 + prefix_len (λ slot. is_passed l (slice_get table slot)) (probes d l))

-- how the label of the page that a slot of these bytes holds stands to the one of other bytes; in a free slot there
-- is none
pub record TellsOrder (slot wanted : List ℕ) (order : Option Ordering) : Type 0 where
  pub free : slot ≡ slot_bytes None → order ≡ None
  pub page : (page : Page) → IsPage page → slot ≡ slot_bytes (Some page)
      → order ≡ Some (slice_cmp nat_cmp (label_bytes page.label) wanted)

-- what a comparison of the label in a slot does: it only reads, and tells how that label stands to the one of these
-- bytes
pub record Orders (old new : SlotsState) (at : ℕ) (wanted : List ℕ)
    (result : Result (Option Ordering) Fault) : Type 0 where
  pub calls : AreSlotCalls old new result
  pub reads : IsObservable old → new.slots ≡ old.slots
  pub told : (slot : List ℕ) → IsObservable old → slice_get old.slots at ≡ Some slot
      → IfOk result (TellsOrder slot wanted)

-- the slot holds the page that the map has under the label
pub record IsSlotWith (slots : List (List ℕ)) (m : PageMap) (l : Label) (at : ℕ) : Type 0 where
  pub page : Page
  pub in_map : page_at m l ≡ Some page
  pub in_slot : slice_get slots at ≡ Some (slot_bytes (Some page))

-- what a search answers where the slots hold the pages of the map, and the steps that it counts: one for each slot
-- that it reads
pub record IsFound (d : Draw) (slots : List (List ℕ)) (m : PageMap) (l : Label) (before after : ℕ)
    (result : Result (Option ℕ) Fault) : Type 0 where
  pub absent : IfOk result (λ found. IsNone found ↔ (page_at m l ≡ None))
  pub slot : IfOk result (λ found. IfSome found (IsSlotWith slots m l))
  pub steps : OnOk result (after ≡ before + looks d (place d (pages_of_map m)) l)
  pub limit : after ≤ before + looks d (place d (pages_of_map m)) l

-- a page may be inserted: there is a free slot, and nothing under its label
pub record HasRoomFor (d : Draw) (slots : List (List ℕ)) (m : PageMap) (page : Page) : Type 0 where
  pub holds : HoldsPages d slots m
  pub free : maps.len m < d.slots
  pub absent : page_at m page.label ≡ None

-- the slot holds the label in slots that hold the pages of the map
pub record HasInSlot (d : Draw) (slots : List (List ℕ)) (m : PageMap) (l : Label) (at : ℕ) : Type 0 where
  pub holds : HoldsPages d slots m
  pub there : IsSlotWith slots m l at

-- what a search does
pub record Finds (d : Draw) (old new : SlotsState) (l : Label) (before after : ℕ)
    (result : Result (Option ℕ) Fault) : Type 0 where
  pub calls : AreSlotCalls old new result
  pub reads : IsObservable old → new.slots ≡ old.slots
  pub within : IfOk result (λ found. IfSome found (λ at. at < old.count))
  pub most : after ≤ before + old.count
  pub found : (m : PageMap) → IsObservable old → HoldsPages d old.slots m → IsFound d old.slots m l before after result

-- what a look into one slot for the page of a label does: it tells whether the page is there
pub record Looks (d : Draw) (old new : SlotsState) (at : ℕ) (l : Label) (result : Result Bool Fault) : Type 0 where
  pub calls : AreSlotCalls old new result
  pub reads : IsObservable old → new.slots ≡ old.slots
  pub there : (m : PageMap) → IsObservable old → HoldsPages d old.slots m
      → IfOk result (λ is_there. IsTrue is_there ↔ IsSlotWith old.slots m l at)

-- what an insertion does
pub record Inserts {T : Type 0} (d : Draw) (old new : SlotsState) (page : Page) (result : Result T Fault) : Type 0 where
  pub calls : AreSlotCalls old new result
  pub inserted : (m : PageMap) → IsObservable old → HasRoomFor d old.slots m page
      → OnOk result (HoldsPages d new.slots (with_page m page))

-- what overwriting the page in a slot does
pub record Overwrites {T : Type 0} (d : Draw) (old new : SlotsState) (at : ℕ) (page : Page)
    (result : Result T Fault) : Type 0 where
  pub calls : AreSlotCalls old new result
  pub overwritten : (m : PageMap) → IsObservable old → HasInSlot d old.slots m page.label at
      → OnOk result (HoldsPages d new.slots (with_page m page))

-- what the removal of the page in a slot does
pub record Removes {T : Type 0} (d : Draw) (old new : SlotsState) (at : ℕ) (result : Result T Fault) : Type 0 where
  pub calls : AreSlotCalls old new result
  pub removed : (m : PageMap) (l : Label) → IsObservable old → HasInSlot d old.slots m l at
      → OnOk result (HoldsPages d new.slots (without_page m l))
