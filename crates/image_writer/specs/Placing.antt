-- Pages that are placed on a disk one after another.
use Rattle.std.specs.Prelude.{◌≡◌, ℕ, ◌-◌, List, length, replicate, None, Result, Ok, OnOk}
use Rattle.store_base.specs.declared.fault.DiskFault.{DiskFault}
use Rattle.store_model.specs.Parameters.{image_len}
use Rattle.store_model.specs.Draws.{Draw}
use Rattle.store_model.specs.Pages.{Page}
use Rattle.store_model.specs.Placement.{Table, HoldsPage, put_all}
use Rattle.store_model.specs.Images.{page_bytes}
use Rattle.disk_model.specs.DiskState.{DiskState, IsObservable}
use Rattle.gate_journal.specs.Places.{IsApart, AreCalls, Keeps, Made}
use Rattle.gate_journal.specs.Phases.{table_slot}

-- the table of pages that were put in one after another, each into the first free slot of its probe sequence
abbrev pub placed : Draw → List Page → Table
placed d pages = put_all d (replicate d.slots None) pages

-- each page of the table stands in its slot of the image
abbrev pub HasPages : ℕ → Table → List ℕ → Type 0
HasPages slots table image = (i : ℕ) (page : Page) → HoldsPage table i page
    → table_slot slots image i ≡ page_bytes page

-- the places of an image of so many slots that stay: the first byte
abbrev pub FirstByte : ℕ → ℕ → Type 0
FirstByte slots place = IsApart 1 (image_len slots - 1) place

-- from the first moment to the second these pages were placed: a write each, and nothing else was written
pub record HavePlaced (d : Draw) (pages : List Page) (start now : DiskState) : Type 0 where
  pub keeps : Keeps (FirstByte d.slots) start now
  pub holds : HasPages d.slots (placed d pages) now.bytes
  pub made : Made (length pages) 0 start now

-- the same of every disk: no call failed, and on a disk that tells its bytes the pages were placed
pub record ArePlaced (d : Draw) (pages : List Page) (start now : DiskState) : Type 0 where
  pub size : start.size ≡ image_len d.slots
  pub calls : AreCalls {T = Unit {0}} {E = DiskFault} start now (Ok tt)
  pub placed : IsObservable start → HavePlaced d pages start now

-- what calls that place pages leave: after Ok the pages were placed, and after a fault only the first byte is known
pub record Places {T E : Type 0} (d : Draw) (pages : List Page) (start now : DiskState) (result : Result T E)
    : Type 0 where
  pub calls : AreCalls start now result
  pub keeps : IsObservable start → Keeps (FirstByte d.slots) start now
  pub done : OnOk result (ArePlaced d pages start now)
