-- What comes before recovery where a store is opened: a sync, and the check of the image.
use Rattle.std.specs.Prelude.{◌≡◌, ℕ, Result, Ok, Err, IfOk, OnOk, IsErrOf}
use Rattle.store_base.specs.Counts.{raised}
use Rattle.store_model.specs.Parameters.{image_len}
use Rattle.store_model.specs.Trees.{Tree, empty_tree}
use Rattle.store_model.specs.Pages.{page_count}
use Rattle.store_model.specs.Images.{Represents}
use Rattle.disk_model.specs.DiskState.{DiskState, IsObservable, IsDurable}
use Rattle.disk_model.specs.DiskCalls.{LeavesOnly}
use Rattle.gate_journal.specs.Disks.{KeepsDisk}
use Rattle.image_check.specs.declared.contents.Contents.{Contents}
use Rattle.image_check.specs.ImageCalls.{HasImage}
use Rattle.image_check.specs.Verdicts.{IsNoImage, IsDamaged}
use Rattle.image_check.specs.declared.fault.AttachFault.{AttachFault}
use Rattle.image_check.specs.declared.fault.AttachFault.TheVariants as attach
use Rattle.image_check.specs.Faults.{attach_faults_by}
use Rattle.image_check.specs.Standing.{IsFitting, Stands}

-- the disk's count of failed calls after a call with such a fault, or none
abbrev pub attach_faults_after : {T : Type 0} → ℕ → Result T AttachFault → ℕ
attach_faults_after count (Ok value) = count
attach_faults_after count (Err fault) = attach_faults_by fault count

-- one sync, and reads: the disk reads as it did, nothing was written, and a crash leaves what one before might have
-- left
pub record IsSynced (old new : DiskState) : Type 0 where
  pub leaves : LeavesOnly old new old.crash_images
  pub bytes : new.bytes ≡ old.bytes
  pub writes : new.writes ≡ old.writes
  pub syncs : new.syncs ≡ raised old.syncs

-- A sync, and then a check of the image as recovery would leave it. What it finds is said of the disk at the beginning.
pub record ChecksSynced (old new : DiskState) (result : Result Contents AttachFault) : Type 0 where
  pub kept : KeepsDisk old new
  pub faults : new.faults ≡ attach_faults_after old.faults result
  pub synced : IsObservable old → IsSynced old new
  -- nothing is pending where the image is to be recovered
  pub durable : IsObservable old → OnOk result (IsDurable new)
  pub image : IfOk result (HasImage old)
  pub not_image : IsErrOf result attach.NotImage → IsNoImage old
  pub damaged : IsErrOf result attach.Damaged → IsDamaged old

-- The tree that a store is opened with fits. An observable disk represents it, and the contents count its pages; of
-- another disk nothing is known, and it is the empty one.
pub record OpensWith (disk : DiskState) (contents : Contents) (t : Tree) : Type 0 where
  pub fitting : IsFitting t contents.params
  pub represents : IsObservable disk → Represents disk.bytes t contents.params
  pub used_is : IsObservable disk → contents.used ≡ page_count t contents.params
  pub unseen : (IsObservable disk → ⊥) → t ≡ empty_tree

-- The disk is as long as the image of the tree, which fits. An observable one stands at it, and the contents count
-- its pages.
pub record IsOpenAt (disk : DiskState) (contents : Contents) (t : Tree) : Type 0 where
  pub fitting : IsFitting t contents.params
  pub size_is : disk.size ≡ image_len contents.params.slots
  pub stands : IsObservable disk → Stands disk t contents.params
  pub used_is : IsObservable disk → contents.used ≡ page_count t contents.params
  pub unseen : (IsObservable disk → ⊥) → t ≡ empty_tree

-- so it is with some tree
abbrev pub IsOpenTo : DiskState → Contents → Type 0
IsOpenTo disk contents = (t : Tree) × IsOpenAt disk contents t
