-- What the call that writes a picture does to its disk and its sink.
use Rattle.std.specs.Prelude.{◌≡◌, ℕ, List, Result, Ok, Err}
use Rattle.store_model.specs.Parameters.{Parameters}
use Rattle.disk_model.specs.DiskState.{DiskState, IsObservable}
use Rattle.gate_journal.specs.Places.{AreCalls, ReadsOnly}
use Rattle.gate_journal.specs.Headers.{IsImageWith}
use Rattle.script_lines.specs.SinkState.{SinkState, IsPut}
use Rattle.slot_map.specs.declared.fault.MapFault.{MapFault}
use Rattle.slot_map.specs.declared.fault.MapFault.TheVariants as faults
use Rattle.slot_map.specs.Pictures.{IsMapOf}

-- the answer as the disk sees it: that it is no image, or that the sink failed, is no fault of the disk
abbrev pub disk_answer : {T : Type 0} → Result T MapFault → Result (Unit {0}) MapFault
disk_answer (Ok _) = Ok tt
disk_answer (Err faults.NoImage) = Ok tt
disk_answer (Err faults.Disk) = Err faults.Disk
disk_answer (Err faults.Sink) = Ok tt

-- Reads of a disk, of which the first that fails is the last. Nothing is written or synced.
pub record ReadsDisk {T E : Type 0} (old new : DiskState) (result : Result T E) : Type 0 where
  pub calls : AreCalls old new result
  pub reads : IsObservable old → ReadsOnly old new

-- an observable disk is no image
abbrev pub IsNoImage : DiskState → Type 0
IsNoImage disk = IsObservable disk → (p : Parameters) → IsImageWith disk.bytes p → ⊥

-- the picture of what an observable disk reads is put out
pub record PutsMap {T E : Type 0} (disk : DiskState) (old new : SinkState) (result : Result T E) : Type 0 where
  pub text : List ℕ
  pub is_map : IsObservable disk → IsMapOf disk.bytes text
  pub put : IsPut old new text result

-- What goes to the sink: the whole picture, or a prefix of it where the sink failed, and else nothing.
abbrev pub ShowsDisk : {T : Type 0} → DiskState → SinkState → SinkState → Result T MapFault → Type 0
ShowsDisk disk old new (Ok _) = PutsMap {T = Unit {0}} {E = MapFault} disk old new (Ok tt)
ShowsDisk disk old new (Err faults.NoImage) = (new ≡ old) × IsNoImage disk
ShowsDisk disk old new (Err faults.Disk) = new ≡ old
ShowsDisk disk old new (Err faults.Sink) = PutsMap {T = Unit {0}} disk old new (Err faults.Sink)
