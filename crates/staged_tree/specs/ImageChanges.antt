-- What a step, and an upgrade, does to a disk that stands at a tree.
use Rattle.std.specs.Prelude.{◌≡◌, ◌⊎◌, Bool, true, false, Result, OnOk, IsErrOf}
use Rattle.store_model.specs.declared.version.Version.TheVariants.{Two}
use Rattle.store_model.specs.Parameters.{Parameters, with_version}
use Rattle.store_model.specs.Trees.{Tree}
use Rattle.store_model.specs.Images.{Represents}
use Rattle.disk_model.specs.DiskState.{DiskState}
use Rattle.disk_model.specs.DiskCalls.{Rose, LeavesOnly}
use Rattle.gate_journal.specs.Places.{ReadsOnly}
use Rattle.gate_journal.specs.Costs.{CountsCommit}
use Rattle.image_check.specs.declared.fault.ApplyFault.{ApplyFault}
use Rattle.image_check.specs.declared.fault.ApplyFault.TheVariants as apply
use Rattle.page_store.specs.CommitKinds.{CountsUpgrade}
use Rattle.staged_tree.specs.TableChanges.{slots_between, slots_upgraded}
use Rattle.image_check.specs.Standing.{Stands}

-- What carrying out a step does to an observable disk that stands at a tree, where the step leads to the next one.
pub record ChangesImage {T : Type 0} (t next : Tree) (p : Parameters) (old new : DiskState) (is_stopped : Bool)
    (result : Result T ApplyFault) : Type 0 where
  pub stands : OnOk result (Stands new next p)
  -- a crash at any moment of the call leaves an image of the one tree or of the other, and the disk reads one
  pub crash : LeavesOnly old new (λ image. Represents image t p ⊎ Represents image next p)
  pub reads : Represents new.bytes t p ⊎ Represents new.bytes next p
  -- where nothing changes and where memory ran out, the disk was read at most
  pub still : next ≡ t → ReadsOnly old new
  pub no_memory : IsErrOf result apply.NoMemory → ReadsOnly old new
  -- the slots that differ are committed, and no others
  pub counts : CountsCommit (slots_between p t next) old new result
  -- the store is stopped only by a fault at a write or a sync, or after one, and any other fault leaves the disk as it
  -- was
  pub stops : is_stopped ≡ true → IsErrOf result apply.Disk × (Rose old.writes new.writes ⊎ Rose old.syncs new.syncs)
  pub goes_on : is_stopped ≡ false → IsErrOf result apply.Disk → ReadsOnly old new

-- What an upgrade does to an observable disk that stands at a tree under these parameters, which are of version 1.
pub record UpgradesImage {T : Type 0} (t : Tree) (p : Parameters) (old new : DiskState) (is_stopped : Bool)
    (result : Result T ApplyFault) : Type 0 where
  pub stands : OnOk result (Stands new t (with_version p Two))
  -- a crash at any moment of the call leaves an image of the tree under the one version or the other, and the disk
  -- reads one
  pub crash : LeavesOnly old new (λ image. Represents image t p ⊎ Represents image t (with_version p Two))
  pub reads : Represents new.bytes t p ⊎ Represents new.bytes t (with_version p Two)
  -- where memory ran out, the disk was read at most
  pub no_memory : IsErrOf result apply.NoMemory → ReadsOnly old new
  -- the slots that differ are committed, and no others
  pub counts : CountsUpgrade (slots_upgraded p t) old new result
  -- the store is stopped only by a fault at a write or a sync, or after one, and any other fault leaves the disk as it
  -- was
  pub stops : is_stopped ≡ true → IsErrOf result apply.Disk × (Rose old.writes new.writes ⊎ Rose old.syncs new.syncs)
  pub goes_on : is_stopped ≡ false → IsErrOf result apply.Disk → ReadsOnly old new
