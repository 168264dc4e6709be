-- What a call does that stages one change.
use Rattle.std.specs.Prelude.{◌≡◌, ℕ, Option, Some, Result, OnOk, OnErr}
use Rattle.store_base.specs.declared.store_fault.Fault.{Fault}
use Rattle.store_base.specs.Faults.{disk_faults_after}
use Rattle.store_model.specs.Labels.{Label}
use Rattle.store_model.specs.Pages.{Cell, Page}
use Rattle.store_model.specs.PageMaps.{PageMap}
use Rattle.node_pages.specs.Insertions.{TakesCell, with_cell}
use Rattle.node_pages.specs.PagesState.{PagesState, IsObservable}
use Rattle.table_memory.specs.Memos.{Remembered, IsKnownPage}
use Rattle.table_memory.specs.Staging.{StagedPages, with_change, with_changes}

-- what it does to observable pages; one that fails leaves them
pub record StagesChange {T : Type 0} (old new : PagesState) (l : Label) (change : Option Page)
    (result : Result T Fault) : Type 0 where
  pub observable : IsObservable new
  pub changed : OnOk result (new.pages ≡ with_change old.pages l change)
  pub unchanged : OnErr result (new.pages ≡ old.pages)

-- a page under a label, or none, in the place of what was there
pub record Stages {T : Type 0} (old new : PagesState) (l : Label) (change : Option Page)
    (result : Result T Fault) : Type 0 where
  pub faults : new.faults ≡ disk_faults_after old.faults result
  pub lookups : new.lookups ≡ old.lookups
  pub hidden : IsObservable new → IsObservable old
  pub observed : IsObservable old → StagesChange old new l change result

-- a change that was a page, and is that page with one cell more
pub record InsertsCell (old new : Option Page) (at : ℕ) (cell : Cell) : Type 0 where
  pub page : Page
  pub was : old ≡ Some page
  pub takes : TakesCell page at cell
  pub now : new ≡ Some (with_cell page at cell)

-- a page is known of the label, and over each map that page with one cell more is staged under it
pub record StagesCell (old new : StagedPages) (memo : Remembered) (l : Label) (at : ℕ) (cell : Cell) : Type 0 where
  pub page : Page
  pub known : IsKnownPage old memo l (Some page)
  pub takes : TakesCell page at cell
  pub staged : (m : PageMap) → with_changes m new ≡ with_change (with_changes m old) l (Some (with_cell page at cell))
