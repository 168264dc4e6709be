-- What a store of pages means at one moment, and what a call on it does.
use Rattle.std.specs.Prelude.{◌≡◌, ◌≢◌, ℕ, ◌+◌, ◌≤◌, Option, Some, Result, Ok, Err, IfOk, OnOk, OnErr, option_copied}
use Rattle.std.specs.Borrow.{Bor}
use Rattle.store_base.specs.Counts.{raised}
use Rattle.store_base.specs.declared.store_fault.Fault.{Fault}
use Rattle.store_base.specs.declared.store_fault.Fault.TheVariants.{NoMemory}
use Rattle.store_base.specs.Faults.{disk_faults_after}
use Rattle.store_model.specs.Labels.{Label}
use Rattle.store_model.specs.Pages.{Cell, Page}
use Rattle.store_model.specs.PageMaps.{PageMap, page_at, with_page, without_page}
use Rattle.node_pages.specs.Insertions.{TakesCell, with_cell}

-- Pages at one moment. Only where they are observable does the map mean anything.
pub record PagesState : Type 1 where
  -- what the pages stand on tells them
  pub is_observable : Type 0
  -- each page under its label
  pub pages : PageMap
  -- how many calls on the disk failed, up to the last value of a u64, at which the count stays
  pub faults : ℕ
  -- how many pages were asked for, up to the last value of a u64
  pub lookups : ℕ
  -- what is under a label is at hand: to ask for it takes no memory
  pub at_hand : Label → Type 0

-- the pages tell their map
abbrev pub IsObservable : PagesState → Type 0
IsObservable state = state.is_observable

-- how many pages there are at most
abbrev pub most_pages : ℕ
most_pages = 4294967295

-- what asking for the page under a label does to observable pages; after a fault they are as they were
pub record GetsPage (old new : PagesState) (label : Label) (result : Result (Option Page) Fault) : Type 0 where
  pub observable : IsObservable new
  pub found : IfOk result (λ page. page ≡ page_at old.pages label)
  pub unchanged : new.pages ≡ old.pages

-- what a put of a page does to observable pages; one that fails leaves them
pub record PutsPage {T : Type 0} (old new : PagesState) (page : Page) (result : Result T Fault) : Type 0 where
  pub observable : IsObservable new
  pub changed : OnOk result (new.pages ≡ with_page old.pages page)
  pub unchanged : OnErr result (new.pages ≡ old.pages)

-- what dropping the page under a label does to observable pages; one that fails leaves them
pub record DropsPage {T : Type 0} (old new : PagesState) (label : Label) (result : Result T Fault) : Type 0 where
  pub observable : IsObservable new
  pub changed : OnOk result (new.pages ≡ without_page old.pages label)
  pub unchanged : OnErr result (new.pages ≡ old.pages)

-- Asking for the page under a label: one more lookup where it answers, and at most one where it fails. What is at
-- hand is found without memory, and what was answered is at hand then. Pages that were not observable stay so, here
-- and below.
pub record IsPageGet (old new : PagesState) (label : Label) (result : Result (Option Page) Fault) : Type 0 where
  pub faults : new.faults ≡ disk_faults_after old.faults result
  pub memory : old.at_hand label → result ≢ Err NoMemory
  pub held : OnOk result (new.at_hand label)
  pub counted : OnOk result (new.lookups ≡ raised old.lookups)
  pub lookups_kept : old.lookups ≤ new.lookups
  pub lookups_most : new.lookups ≤ old.lookups + 1
  pub hidden : IsObservable new → IsObservable old
  pub observed : IsObservable old → GetsPage old new label result

-- what an answer shows that hands out a reference to a page
abbrev pub looked_at : Result (Option (Bor Page)) Fault → Result (Option Page) Fault
looked_at (Ok page) = Ok (option_copied page)
looked_at (Err fault) = Err fault

-- a put of a page under its label, in the place of the one that was there
pub record IsPagePut {T : Type 0} (old new : PagesState) (page : Page) (result : Result T Fault) : Type 0 where
  pub faults : new.faults ≡ disk_faults_after old.faults result
  pub lookups : new.lookups ≡ old.lookups
  pub hidden : IsObservable new → IsObservable old
  pub observed : IsObservable old → PutsPage old new page result

-- the page under a label dropped, if there is one
pub record IsPageDrop {T : Type 0} (old new : PagesState) (label : Label) (result : Result T Fault) : Type 0 where
  pub faults : new.faults ≡ disk_faults_after old.faults result
  pub lookups : new.lookups ≡ old.lookups
  pub hidden : IsObservable new → IsObservable old
  pub observed : IsObservable old → DropsPage old new label result

-- the map has a page under the label, and it takes a cell at this place
pub record HasPlace (m : PageMap) (label : Label) (at : ℕ) (cell : Cell) : Type 0 where
  pub page : Page
  pub found : page_at m label ≡ Some page
  pub takes : TakesCell page at cell

-- A cell inserted into the page under a label: the page with it is put.
pub record IsCellInsert {T : Type 0} (old new : PagesState) (label : Label) (at : ℕ) (cell : Cell)
    (result : Result T Fault) : Type 0 where
  pub faults : new.faults ≡ disk_faults_after old.faults result
  pub lookups : new.lookups ≡ old.lookups
  pub hidden : IsObservable new → IsObservable old
  pub observed : IsObservable old → (page : Page) → page_at old.pages label ≡ Some page
      → PutsPage old new (with_cell page at cell) result
