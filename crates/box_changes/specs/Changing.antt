-- What a call promises that changes an image.
use Rattle.std.specs.Prelude.{◌≡◌, ◌⊎◌, ◌<◌, Bool, true, false, IsTrue, Result}
use Rattle.store_base.specs.Counts.{Rose}
use Rattle.store_model.specs.declared.refusal.Refusal.{Refusal}
use Rattle.store_model.specs.Parameters.{Parameters}
use Rattle.store_model.specs.Paths.{Path}
use Rattle.store_model.specs.Trees.{Tree}
use Rattle.store_model.specs.Pages.{page_count}
use Rattle.store_model.specs.Images.{Represents}
use Rattle.disk_model.specs.DiskState.{DiskState, IsObservable}
use Rattle.disk_model.specs.DiskCalls.{LeavesOnly}
use Rattle.script_lines.specs.SinkState.{SinkState}
use Rattle.gate_journal.specs.Disks.{KeepsDisk}
use Rattle.image_check.specs.Standing.{Stands}
use Rattle.image_check.specs.Verdicts.{IsNoImage, IsDamaged}
use Rattle.store_core.specs.StoreCalls.{LeavesImage}
use Rattle.box_words.specs.declared.status.Status.{Status}
use Rattle.box_words.specs.declared.status.Status.TheVariants as statuses
use Rattle.box_calls.specs.declared.trouble.Trouble.{Trouble}
use Rattle.box_calls.specs.Endings.{IsTold}
use Rattle.box_changes.specs.Endings.{EndsChange}

-- what the words mean under some parameters: to which tree a tree goes on
abbrev pub Meaning : Type 1
Meaning = Parameters → Tree → Tree → Type 0

-- and why they are refused at a path
abbrev pub Refusing : Type 1
Refusing = Parameters → Tree → Path → Refusal → Type 0

-- the words are refused at a path
pub record IsRefusedAt (refuses : Tree → Path → Refusal → Type 0) (t : Tree) : Type 0 where
  pub path : Path
  pub why : Refusal
  pub refused : refuses t path why

-- the tree that they mean does not fit
pub record HasNoRoom (means : Tree → Tree → Type 0) (t : Tree) (p : Parameters) : Type 0 where
  pub next : Tree
  pub means_it : means t next
  pub more : p.slots < page_count next p

-- What a call that ends so does on a disk whose image, recovered or not, is that of the tree: it holds the tree that is
-- meant, durably, or the one from before. Only where the disk failed it may be the one or the other.
pub record ChangesTree (means : Tree → Tree → Type 0) (refuses : Tree → Path → Refusal → Type 0) (t : Tree)
    (p : Parameters) (old new : DiskState) (status : Status) : Type 0 where
  -- the tree that is reached
  pub next : Tree
  pub reached : means t next ⊎ (next ≡ t)
  pub done : IsTold status → means t next × Stands new next p
  pub unchanged : (IsTold status → ⊥) → (status ≡ statuses.Disk → ⊥) → Represents new.bytes t p
  pub failed : status ≡ statuses.Disk → Represents new.bytes t p ⊎ Represents new.bytes next p
  -- why it ends so
  pub refused : status ≡ statuses.Path → IsRefusedAt refuses t
  pub full : status ≡ statuses.Full → HasNoRoom means t p
  -- a crash at any moment of the call leaves an image of the one tree or of the other, unless one before the call might
  -- have left it
  pub crash : LeavesOnly old new
      (λ image. old.crash_images image ⊎ (Represents image t p ⊎ Represents image next p))

-- What it does on a disk that tells its bytes.
pub record ChangesDisk (means : Meaning) (refuses : Refusing) (old new : DiskState) (status : Status) : Type 0 where
  pub not_image : status ≡ statuses.NotImage → IsNoImage old
  pub damaged : status ≡ statuses.Damaged → IsDamaged old
  -- a disk that represents no tree is left as it is
  pub nothing : ((t : Tree) (p : Parameters) → Represents old.bytes t p → ⊥)
      → LeavesImage old new × (IsTold status → ⊥)
  pub changes : (t : Tree) (p : Parameters) → Represents old.bytes t p
      → ChangesTree (means p) (refuses p) t p old new status

-- how such a call may end
abbrev pub is_change_status : Status → Bool
is_change_status statuses.Done = true
is_change_status statuses.Differs = false
is_change_status statuses.Words = false
is_change_status statuses.Input = false
is_change_status statuses.Output = false
is_change_status statuses.Disk = true
is_change_status statuses.NotImage = true
is_change_status statuses.Damaged = true
is_change_status statuses.NoMemory = true
is_change_status statuses.NotOpened = false
is_change_status statuses.Unequal = false
is_change_status statuses.BadListing = false
is_change_status statuses.Full = true
is_change_status statuses.Path = true
is_change_status statuses.Host = false
is_change_status statuses.Locked = false

-- The image of a disk is changed as words mean; the sink gets what is said.
pub record ChangesImage (sums_up : Bool) (means : Meaning) (refuses : Refusing) (old new : DiskState)
    (say say_new : SinkState) (status : Status) : Type 0 where
  pub done : Result (Unit {0}) Trouble
  pub recovered : Bool
  pub ends : EndsChange sums_up recovered done 0 status say say_new
  pub kept : KeepsDisk old new
  pub only : IsTrue (is_change_status status)
  -- the disk is blamed only where a call of it failed
  pub failed : status ≡ statuses.Disk → Rose old.faults new.faults
  pub observed : IsObservable old → ChangesDisk means refuses old new status
