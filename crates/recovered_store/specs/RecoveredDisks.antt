-- What is made of a disk: one of the image that recovery would leave.
use Rattle.std.specs.Prelude.{◌≡◌, ℕ}
use Rattle.store_model.specs.Parameters.{Parameters}
use Rattle.store_model.specs.Images.{recovered}
use Rattle.store_base.specs.Counts.{raised, raised_by}
use Rattle.disk_model.specs.DiskState.{DiskState, IsObservable}
use Rattle.gate_journal.specs.Places.{ReadsOnly}
use Rattle.gate_journal.specs.Headers.{IsImageWith, HasParameters}
use Rattle.recovered_store.specs.declared.recovered.ViewFault.{ViewFault}
use Rattle.recovered_store.specs.declared.recovered.ViewFault.TheVariants as views

-- the faults are those of the disk below, as far as the count goes, and no write and no sync was asked for
pub record HasCounts (below disk : DiskState) : Type 0 where
  pub faults : disk.faults ≡ raised_by below.faults 0
  pub writes : disk.writes ≡ 0
  pub syncs : disk.syncs ≡ 0

-- The disk below has an image of some parameters, and the disk reads as the image that recovery would leave of it.
pub record IsRecoveredOf (below disk : DiskState) : Type 0 where
  pub params : Parameters
  pub has_parameters : HasParameters below params
  pub size : disk.size ≡ below.size
  pub observable : disk.is_observable ≡ below.is_observable
  pub bytes : IsObservable below → disk.bytes ≡ recovered params.slots below.bytes
  pub counts : HasCounts below disk

-- a disk's count of failed calls after its header was read, and there is no image for this reason
abbrev pub view_faults_by : ViewFault → ℕ → ℕ
view_faults_by views.NotImage count = count
view_faults_by views.Disk count = raised count

-- There is no image to be read, for this reason; the disk was only read.
pub record IsNotOpened (old : DiskState) (fault : ViewFault) (new : DiskState) : Type 0 where
  pub size : new.size ≡ old.size
  pub observable : new.is_observable ≡ old.is_observable
  pub faults : new.faults ≡ view_faults_by fault old.faults
  pub reads : IsObservable old → ReadsOnly old new
  pub not_image : fault ≡ views.NotImage → IsObservable old → (p : Parameters) → IsImageWith old.bytes p → ⊥
