-- What is read of an opened store.
use Rattle.std.specs.Prelude.{◌≡◌, Result, OnOk, OnErr, IfOk, IfErr, ⊤}
use Rattle.store_base.specs.Counts.{raised}
use Rattle.store_model.specs.Paths.{Path}
use Rattle.store_model.specs.Trees.{Tree, IsTree, contents}
use Rattle.disk_model.specs.DiskState.{DiskState, IsObservable}
use Rattle.gate_journal.specs.Places.{ReadsOnly}
use Rattle.script_lines.specs.SinkState.{SinkState, AppendsPrefix}
use Rattle.script_lines.specs.SinkState as sinks
use Rattle.image_reads.specs.declared.fault.ReadFault.{ReadFault}
use Rattle.image_reads.specs.declared.fault.ReadFault.TheVariants as reads
use Rattle.image_reads.specs.declared.found.FileFound.{FileFound}
use Rattle.image_reads.specs.Faults.{output_faults}
use Rattle.image_reads.specs.Reads.{IsFileRead}

-- a store that was opened is an image and not damaged; where its disk is blamed one call of it failed, and a disk that
-- tells its bytes does not change
abbrev pub IsStoreFault : DiskState → DiskState → ReadFault → Type 0
IsStoreFault old new reads.NotImage = ⊥
IsStoreFault old new reads.Damaged = ⊥
IsStoreFault old new reads.Disk = new.faults ≡ raised old.faults
IsStoreFault old new reads.NoMemory = ⊤
IsStoreFault old new reads.Changed = IsObservable old → ⊥
IsStoreFault old new reads.Output = ⊤

-- a disk was only read
pub record IsOnlyRead (old new : DiskState) : Type 0 where
  pub observable : new.is_observable ≡ old.is_observable
  pub reads : IsObservable old → ReadsOnly old new

-- the disk of a store was only read
pub record LeavesDisk {T : Type 0} (old new : DiskState) (result : Result T ReadFault) : Type 0 where
  pub read : IsOnlyRead old new
  pub fault : IfErr result (IsStoreFault old new)

-- A file of the store's tree was read into a sink, or a prefix of its bytes was.
pub record PutsFile (path : Path) (disk : DiskState) (t : Tree) (old new : SinkState)
    (result : Result FileFound ReadFault) : Type 0 where
  pub faults : new.faults ≡ output_faults result old.faults
  pub observable : OnOk result (new.is_observable ≡ old.is_observable)
  pub read : IsTree t → IsObservable disk → IfOk result (λ found. IsFileRead path old new found t)
  pub cut_off : IsTree t → IsObservable disk → sinks.IsObservable old
      → OnErr result (AppendsPrefix old.written new.written (contents t path))
