-- How changes are carried out on slots.
use Rattle.std.specs.Prelude.{◌≡◌, ◌<◌, ◌≤◌, List, [], ◌∷◌, Option, Some, None, Result, OnOk}
use Rattle.std.specs.FinMap as maps
use Rattle.store_model.specs.Labels.{Label}
use Rattle.store_model.specs.Draws.{Draw}
use Rattle.store_model.specs.Pages.{Page}
use Rattle.store_model.specs.PageMaps.{PageMap, page_at, with_page, without_page, IsPageMap, HoldsPages}
use Rattle.store_base.specs.declared.store_fault.Fault.{Fault}
use Rattle.store_base.specs.SlotsState.{SlotsState, IsObservable, AreSlotCalls}
use Rattle.table_memory.specs.Staging.{StagedPages, with_changes}

-- the page under a label is taken away, if there is one
pub record TakesPage {T : Type 0} (d : Draw) (old new : SlotsState) (l : Label) (result : Result T Fault) : Type 0 where
  pub calls : AreSlotCalls old new result
  pub taken : (m : PageMap) → IsObservable old → HoldsPages d old.slots m
      → OnOk result (HoldsPages d new.slots (without_page m l))

-- a page is put under its label, in the place of the one that was there; a new one asks for a free slot
pub record LaysPage {T : Type 0} (d : Draw) (old new : SlotsState) (page : Page)
    (result : Result T Fault) : Type 0 where
  pub calls : AreSlotCalls old new result
  pub laid : (m : PageMap) → IsObservable old → HoldsPages d old.slots m
      → (page_at m page.label ≡ None → maps.len m < d.slots) → OnOk result (HoldsPages d new.slots (with_page m page))

-- one change, where it leaves its label without a page, and where it has one
abbrev pub taken_one : PageMap → Label → Option Page → PageMap
taken_one m l None = without_page m l
taken_one m l (Some page) = m

-- the map without the pages of the labels that the changes leave without one, change after change
abbrev pub taken_by : PageMap → StagedPages → PageMap
taken_by m [] = m
taken_by m (change ∷ changes) = taken_by (taken_one m change.0 change.1) changes

-- the pages of labels that changes leave without one are taken away
pub record TakesPages {T : Type 0} (d : Draw) (old new : SlotsState) (changes : StagedPages)
    (result : Result T Fault) : Type 0 where
  pub calls : AreSlotCalls old new result
  pub taken : (m : PageMap) → IsObservable old → HoldsPages d old.slots m
      → OnOk result (HoldsPages d new.slots (taken_by m changes))

-- what a change has under its label, a page or none, put into the map
abbrev pub laid_one : PageMap → Option Page → PageMap
laid_one m None = m
laid_one m (Some page) = with_page m page

-- the map with the pages that the changes have, one after another
abbrev pub laid_by : PageMap → List (Option Page) → PageMap
laid_by m [] = m
laid_by m (page ∷ pages) = laid_by (laid_one m page) pages

-- pages are laid in; with all of them there have to be no more pages than slots
pub record LaysPages {T : Type 0} (d : Draw) (old new : SlotsState) (pages : List (Option Page))
    (result : Result T Fault) : Type 0 where
  pub calls : AreSlotCalls old new result
  pub laid : (m : PageMap) → IsObservable old → HoldsPages d old.slots m → maps.len (laid_by m pages) ≤ d.slots
      → OnOk result (HoldsPages d new.slots (laid_by m pages))

-- changes are carried out on slots; with them the map has to have each page under its label, and no more pages than
-- slots
pub record LaysChanges {T : Type 0} (d : Draw) (old new : SlotsState) (changes : StagedPages)
    (result : Result T Fault) : Type 0 where
  pub calls : AreSlotCalls old new result
  pub carried : (m : PageMap) → IsObservable old → HoldsPages d old.slots m → IsPageMap (with_changes m changes)
      → maps.len (with_changes m changes) ≤ d.slots → OnOk result (HoldsPages d new.slots (with_changes m changes))
