-- What `upgrade` promises.
use Rattle.std.specs.Prelude.{◌≡◌, ◌⊎◌, ℕ, ◌+◌, List}
use Rattle.store_model.specs.declared.version.Version.{Version}
use Rattle.store_model.specs.declared.version.Version.TheVariants.{One, Two}
use Rattle.store_model.specs.Parameters.{Parameters, with_version}
use Rattle.store_model.specs.Trees.{Tree}
use Rattle.store_model.specs.Images.{Represents}
use Rattle.store_base.specs.Counts.{Rose}
use Rattle.disk_model.specs.DiskState.{DiskState}
use Rattle.disk_model.specs.DiskCalls.{LeavesOnly}
use Rattle.gate_journal.specs.Costs.{opening_writes, opening_syncs, upgrade_writes, upgrade_syncs, MadeAtMost}
use Rattle.gate_journal.specs.Disks.{IsOnlySynced, IsUnwritten}
use Rattle.gate_journal.specs.Phases.{HasEmptyJournal}
use Rattle.gate_journal.specs.Places.{Made}
use Rattle.image_check.specs.Standing.{Stands}
use Rattle.store_core.specs.StoreCalls.{LeavesImage}
use Rattle.staged_tree.specs.TableChanges.{slots_upgraded}
use Rattle.image_subcommands.specs.declared.outcome.Outcome.{Outcome}
use Rattle.image_subcommands.specs.declared.status.Status.{Status}
use Rattle.image_subcommands.specs.declared.status.Status.TheVariants as statuses
use Rattle.image_subcommands.specs.Outside.{Outside}
use Rattle.image_subcommands.specs.Statuses.{Subcommand as words, done_of_work}
use Rattle.image_work.specs.Works.{Works}

-- the writes after the opening of an image that was of this version, where so many slots differ between the two
-- versions
abbrev pub writes_behind : Version → ℕ → ℕ
writes_behind One slots = upgrade_writes slots
writes_behind Two slots = 0

-- and the syncs
abbrev pub syncs_behind : Version → ℕ
syncs_behind One = upgrade_syncs
syncs_behind Two = 0

-- an image of the tree under the parameters, or under the same with version 2
abbrev pub RepresentsEither : Tree → Parameters → List ℕ → Type 0
RepresentsEither t p image = Represents image t p ⊎ Represents image t (with_version p Two)

-- Where it is done just the writes and syncs of opening the image were made, and of one of version 1 those of the
-- commit of the slots that differ and of the version; and with a fault no more. For want of memory those of opening
-- it were made, or a sync at most.
pub record CountsUpgraded (t : Tree) (p : Parameters) (status : Status) (old new : DiskState) : Type 0 where
  pub done : status ≡ statuses.Done
      → Made (opening_writes p.slots old.bytes + writes_behind p.version (slots_upgraded p t))
      (opening_syncs p.slots old.bytes + syncs_behind p.version) old new
  pub no_memory : status ≡ statuses.NoMemory
      → Made (opening_writes p.slots old.bytes) (opening_syncs p.slots old.bytes) old new ⊎ IsOnlySynced old new
  pub limit : MadeAtMost (opening_writes p.slots old.bytes + writes_behind p.version (slots_upgraded p t))
      (opening_syncs p.slots old.bytes + syncs_behind p.version) old new

-- The image of the tree has the version that it had: the disk reads such an image, and stands at it or is as it was.
-- An image that a crash at any moment of the call may leave is one that a crash before it might have left, or
-- represents the tree under that version.
pub record KeepsVersion (t : Tree) (p : Parameters) (old new : DiskState) : Type 0 where
  pub reads : Represents new.bytes t p
  pub stands : Stands new t p ⊎ LeavesImage old new
  pub crash : LeavesOnly old new (λ image. old.crash_images image ⊎ Represents image t p)

-- An upgrade of an image that represents the tree.
pub record UpgradesTree (t : Tree) (p : Parameters) (status : Status) (old new : DiskState) : Type 0 where
  -- where it is done the disk reads the layout of the tree under version 2, and nothing is pending
  pub upgraded : status ≡ statuses.Done → Stands new t (with_version p Two)
  -- An image that a crash at any moment of the call may leave is one that a crash before it might have left, or
  -- represents the tree under the one version or the other; and the disk reads such an image, after a fault too.
  pub crash : LeavesOnly old new (λ image. old.crash_images image ⊎ RepresentsEither t p image)
  pub reads : RepresentsEither t p new.bytes
  -- where memory ran out all is of the version that it had, what a crash leaves too
  pub no_memory : status ≡ statuses.NoMemory → KeepsVersion t p old new
  pub counts : CountsUpgraded t p status old new
  -- an image of version 2 with an empty journal is not written
  pub quiet : p.version ≡ Two → HasEmptyJournal p.slots old.bytes
      → (status ≡ statuses.DiskFault → ⊥) → IsUnwritten old new
  -- it is done where no call failed and memory was there
  pub complete : (Rose old.faults new.faults → ⊥) → (status ≡ statuses.Done) ⊎ (status ≡ statuses.NoMemory)

-- What a call leaves that calls neither the source nor the sink.
pub record KeepsUpgrade {D R W : Type 0} (before : Outside D R W) (after : Outcome D R W) : Type 0 where
  pub done : after.done ≡ done_of_work after.status
  pub source : after.source ≡ before.source
  pub sink : after.sink ≡ before.sink

module _ {D R W : Type 0} (disk_of : D → DiskState) where
  abbrev pub UpgradesAt : Tree → Parameters → Outside D R W → Outcome D R W → Type 0
  UpgradesAt t p before after = UpgradesTree t p after.status (disk_of before.disk) (disk_of after.disk)

  -- the image is opened, and made one of version 2
  abbrev pub IsUpgrade : Outside D R W → Outcome D R W → Type 0
  IsUpgrade before after = Works disk_of words.Upgrade KeepsUpgrade UpgradesAt before after
