-- A store over the image that recovery would leave of a disk.
use Rattle.std.specs.Prelude.{◌≡◌, false}
use Rattle.store_base.specs.Counts.{Rose, raised_by}
use Rattle.store_model.specs.Images.{Represents}
use Rattle.disk_model.specs.DiskState.{DiskState, IsObservable}
use Rattle.gate_journal.specs.Headers.{HasParameters}
use Rattle.recovered_store.specs.declared.recovered.ViewFault.{ViewFault}
use Rattle.recovered_store.specs.declared.recovered.ViewFault.TheVariants as views
use Rattle.image_check.specs.declared.fault.AttachFault.{AttachFault}
use Rattle.image_check.specs.declared.fault.AttachFault.TheVariants as attach
use Rattle.image_check.specs.Standing.{IsFitting, Stands}
use Rattle.image_check.specs.Verdicts.{IsNoImage, IsDamaged}
use Rattle.store_core.specs.StoreState.{StoreState}

-- why there is no store, where there is no image to read
abbrev pub attach_fault_of : ViewFault → AttachFault
attach_fault_of views.NotImage = attach.NotImage
attach_fault_of views.Disk = attach.Disk

-- The disk has the image of the tree, recovered or not, and the store stands at that tree, over a disk on which no
-- write was tried.
pub record IsOpened {R : Type 0} (state : R → DiskState) (old : DiskState) (store : StoreState R) : Type 0 where
  pub has_parameters : HasParameters old store.params
  pub fitting : IsFitting store.tree store.params
  pub runs : store.is_stopped ≡ false
  pub observable : (state store.disk).is_observable ≡ old.is_observable
  -- no call failed, as far as the count goes
  pub faults : (state store.disk).faults ≡ raised_by old.faults 0
  pub represents : IsObservable old → Represents old.bytes store.tree store.params
  pub stands : IsObservable old → Stands (state store.disk) store.tree store.params
  pub unwritten : IsObservable old → (state store.disk).writes ≡ 0

-- The disk was not made a store, for this reason.
pub record IsRefused (old : DiskState) (fault : AttachFault) (new : DiskState) : Type 0 where
  pub not_image : fault ≡ attach.NotImage → IsNoImage old
  pub damaged : fault ≡ attach.Damaged → IsDamaged old
  -- no write that was refused is taken for a fault of the disk
  pub failed : IsObservable old → fault ≡ attach.Disk → Rose old.faults new.faults
