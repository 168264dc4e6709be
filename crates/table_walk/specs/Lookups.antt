-- What a lookup of a page in slots that hold a map does.
use Rattle.std.specs.Prelude.{◌≡◌, Option, Result, IfSome, IfOk}
use Rattle.store_model.specs.Labels.{Label}
use Rattle.store_model.specs.Draws.{Draw}
use Rattle.store_model.specs.Pages.{Page}
use Rattle.store_model.specs.PageMaps.{PageMap, page_at, HoldsPages}
use Rattle.store_base.specs.declared.store_fault.Fault.{Fault}
use Rattle.store_base.specs.SlotsState.{SlotsState, IsObservable}
use Rattle.table_walk.specs.IndexLookups.{ReadsOnly}

-- a lookup of the page of a label
pub record FindsPage (d : Draw) (old new : SlotsState) (l : Label) (result : Result (Option Page) Fault) : Type 0 where
  pub reads : ReadsOnly old new result
  pub label : IfOk result (λ found. IfSome found (λ page. page.label ≡ l))
  pub found : (m : PageMap) → IsObservable old → HoldsPages d old.slots m → IfOk result (λ found. found ≡ page_at m l)
