-- What the checks of images ensure.
use Rattle.std.specs.Prelude.{◌≡◌, ℕ, ◌≤◌, List, Result, Ok, Err, IfOk, IsErrOf}
use Rattle.store_model.specs.Parameters.{Parameters}
use Rattle.store_model.specs.Trees.{Tree}
use Rattle.store_model.specs.Images.{Represents}
use Rattle.store_base.specs.declared.store_fault.Fault.{Fault}
use Rattle.store_base.specs.declared.store_fault.Fault.TheVariants as causes
use Rattle.store_base.specs.Faults.{disk_faults_after}
use Rattle.disk_model.specs.DiskState.{DiskState, IsObservable}
use Rattle.gate_journal.specs.Places.{ReadsOnly}
use Rattle.image_check.specs.declared.contents.Contents.{Contents}
use Rattle.image_check.specs.declared.fault.AttachFault.{AttachFault}
use Rattle.image_check.specs.declared.fault.AttachFault.TheVariants as attach
use Rattle.image_check.specs.declared.verdict.Verdict.{Verdict}
use Rattle.image_check.specs.Contents.{AreContents}
use Rattle.image_check.specs.SlotCalls.{verdict_in}
use Rattle.gate_journal.specs.Headers.{HasParameters}
use Rattle.image_check.specs.Verdicts.{clean_of, IsVerdict, IsNoImage, IsDamaged}

-- Reads of a disk, of which the first that fails is the last: nothing is written or synced, and nothing is pending but
-- what was. The count of faults is one more after a fault of the disk, and else the same; no count falls.
pub record ReadsDisk {T : Type 0} (old new : DiskState) (result : Result T Fault) : Type 0 where
  pub size : new.size ≡ old.size
  pub observable : new.is_observable ≡ old.is_observable
  pub faults : new.faults ≡ disk_faults_after old.faults result
  pub rise : old.faults ≤ new.faults
  pub writes : old.writes ≤ new.writes
  pub syncs : old.syncs ≤ new.syncs
  pub reads : IsObservable old → ReadsOnly old new

-- the image represents a tree under the parameters of these contents, which are its
pub record HasTree (image : List ℕ) (contents : Contents) : Type 0 where
  pub tree : Tree
  pub contents_are : AreContents tree contents.params contents
  pub represents : Represents image tree contents.params

-- a disk of an image's length, with what it holds; an observable one represents a tree that has it
pub record HasImage (disk : DiskState) (contents : Contents) : Type 0 where
  pub has_parameters : HasParameters disk contents.params
  pub tree : IsObservable disk → HasTree disk.bytes contents

-- what a disk holds, or why it holds no tree; where the disk failed, nothing is said of it. It takes no memory
abbrev pub IsFoundOn : DiskState → Result Contents AttachFault → Type 0
IsFoundOn disk (Ok contents) = HasImage disk contents
IsFoundOn disk (Err attach.NotImage) = IsNoImage disk
IsFoundOn disk (Err attach.Damaged) = IsDamaged disk
IsFoundOn disk (Err attach.Disk) = Unit {0}
IsFoundOn disk (Err attach.NoMemory) = ⊥

-- A search for what an image holds. Its reads are those of the check that gives the verdict on it: that there is no
-- image, or a damaged one, is no fault of theirs.
pub record FindsImage (old new : DiskState) (result : Result Contents AttachFault) : Type 0 where
  pub reads : ReadsDisk old new (verdict_in result)
  pub found : IsFoundOn old result

-- a check of an image
pub record ChecksImage (old new : DiskState) (result : Result Verdict Fault) : Type 0 where
  pub reads : ReadsDisk old new result
  -- it takes no memory
  pub memory : IsErrOf result causes.NoMemory → ⊥
  -- the verdict is that on the disk
  pub verdict : IfOk result (IsVerdict old)
  -- and where an observable disk represents a tree it is that on the tree
  pub clean : IsObservable old → (t : Tree) (p : Parameters) → Represents old.bytes t p
      → IfOk result (λ verdict. verdict ≡ clean_of t p)
