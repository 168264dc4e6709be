-- What is told of an image in numbers.
use Rattle.std.specs.Prelude.{◌≡◌, ◌↔◌, ℕ, List, Result, IfOk, IfErr, IsTrue}
use Rattle.sha2.specs.Sha256.{sha256}
use Rattle.store_base.specs.Counts.{Rose}
use Rattle.store_base.specs.declared.fault.DiskFault.{DiskFault}
use Rattle.store_model.specs.Parameters.{Parameters}
use Rattle.store_model.specs.Images.{recovered}
use Rattle.disk_model.specs.DiskState.{DiskState, IsObservable}
use Rattle.image_check.specs.ImageCalls.{HasImage}
use Rattle.image_check.specs.Verdicts.{IsNoImage, IsDamaged}
use Rattle.image_check.specs.declared.fault.AttachFault.{AttachFault}
use Rattle.image_check.specs.declared.fault.AttachFault.TheVariants as attach
use Rattle.recovered_store.specs.BelowDisks.{IsUntouched}
use Rattle.image_summary.specs.declared.summary.Summary.{Summary}
use Rattle.image_summary.specs.declared.summary.SummaryFault.{SummaryFault}
use Rattle.image_summary.specs.declared.summary.SummaryFault.TheVariants as faults

-- why an image has no summary that was not found
abbrev pub fault_of : AttachFault → SummaryFault
fault_of attach.NotImage = faults.NotImage
fault_of attach.Damaged = faults.Damaged
fault_of attach.Disk = faults.Disk
fault_of attach.NoMemory = faults.Disk

-- recovery would change the image
abbrev pub IsPending : ℕ → List ℕ → Type 0
IsPending slots image = recovered slots image ≡ image → ⊥

-- What a disk holds, in numbers. Of one that tells its bytes the digest is that of the image which recovery would
-- leave, and a recovery is pending exactly where that is another image.
pub record IsSummary (disk : DiskState) (s : Summary) : Type 0 where
  pub has_image : HasImage disk s.contents
  pub digest : IsObservable disk → s.digest ≡ sha256 (recovered s.contents.params.slots disk.bytes)
  pub pending : IsObservable disk → IsTrue s.is_pending ↔ IsPending s.contents.params.slots disk.bytes

-- a disk has no summary for this reason
abbrev pub IsUnread : DiskState → DiskState → SummaryFault → Type 0
IsUnread old new faults.NotImage = IsNoImage old
IsUnread old new faults.Damaged = IsDamaged old
IsUnread old new faults.Disk = IsObservable old → Rose old.faults new.faults

-- A disk was summed up, and only read, whatever ended it.
pub record Summarizes (old new : DiskState) (result : Result Summary SummaryFault) : Type 0 where
  pub size : new.size ≡ old.size
  pub observable : new.is_observable ≡ old.is_observable
  pub untouched : IsObservable old → IsUntouched old new
  pub found : IfOk result (IsSummary old)
  pub unread : IfErr result (IsUnread old new)

-- The image that recovery would leave was digested, and the disk was only read.
pub record Digests (p : Parameters) (old new : DiskState) (result : Result (List ℕ) DiskFault) : Type 0 where
  pub size : new.size ≡ old.size
  pub observable : new.is_observable ≡ old.is_observable
  pub untouched : IsObservable old → IsUntouched old new
  pub digest : IsObservable old → IfOk result (λ digest. digest ≡ sha256 (recovered p.slots old.bytes))
  pub failed : IsObservable old → IfErr result (λ fault. Rose old.faults new.faults)
