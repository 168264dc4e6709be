-- What is seen of an overlay.
use Rattle.std.specs.Prelude.{ℕ, List}
use Rattle.disk_model.specs.declared.disk.Disk as declared
use Rattle.page_store.specs.declared.overlay.Overlay.{Overlay}
use Rattle.store_model.specs.Parameters.{Parameters}
use Rattle.store_base.specs.SlotsState.{SlotsState}
use Rattle.disk_model.specs.DiskState.{DiskState}
use Rattle.gate_journal.specs.ViewState.{KeepsView}
use Rattle.table_memory.specs.OverlayState.{overlaid}

-- the disk below
abbrev pub disk_of : {D : Type 0} {ghosts : declared.Ghosts D} → Overlay D ghosts → D
disk_of overlay = overlay.disk

-- the parameters that the disk is read by
abbrev pub params_of : {D : Type 0} {ghosts : declared.Ghosts D} → Overlay D ghosts → Parameters
params_of overlay = overlay.params

-- the slots that were written, with their bytes
abbrev pub touched_of : {D : Type 0} {ghosts : declared.Ghosts D} → Overlay D ghosts → List (ℕ × List ℕ)
touched_of overlay = overlay.touched.entries

-- its slots
abbrev pub slots_seen : {D : Type 0} {ghosts : declared.Ghosts D} → (D → DiskState) → Overlay D ghosts → SlotsState
slots_seen state overlay = overlaid overlay.params.slots overlay.touched.entries (state overlay.disk)

-- calls that only read the disk below
abbrev pub Views : {D : Type 0} {ghosts : declared.Ghosts D} → (D → DiskState) → Overlay D ghosts
    → Overlay D ghosts → Type 0
Views state old new = KeepsView old.params new.params (state old.disk) (state new.disk)
