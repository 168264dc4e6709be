-- What a call promises that opens an image and does a work with its store: one record over what the work leaves and
-- does, and what the work has to promise for it.
use Rattle.std.specs.Prelude.{◌≡◌, false, IsTrue, not, ◌&&◌}
use Rattle.store_model.specs.Parameters.{Parameters}
use Rattle.store_model.specs.Trees.{Tree}
use Rattle.store_model.specs.Images.{Represents}
use Rattle.disk_model.specs.DiskState.{DiskState, IsObservable}
use Rattle.gate_journal.specs.Headers.{HasParameters}
use Rattle.script_lines.specs.SourceState.{SourceState}
use Rattle.script_lines.specs.SinkState.{SinkState}
use Rattle.image_check.specs.declared.fault.AttachFault.{AttachFault}
use Rattle.image_check.specs.Standing.{IsFitting, Stands, RepresentsSome}
use Rattle.image_check.specs.Verdicts.{IsNoImage, IsDamaged}
use Rattle.store_core.specs.StoreCalls.{IsAttached, KeepsImage, LeavesImage}
use Rattle.store_core.specs.StoreState.{StoreState}
use Rattle.image_subcommands.specs.declared.outcome.Outcome.{Outcome}
use Rattle.image_subcommands.specs.declared.status.Status.{Status}
use Rattle.image_subcommands.specs.declared.status.Status.TheVariants as statuses
use Rattle.image_subcommands.specs.Endings.{attach_status}
use Rattle.image_subcommands.specs.Outside.{Outside, outside_of, KeepsOutside, IsIdle}
use Rattle.image_subcommands.specs.Statuses.{row, Subcommand, IsStatusOf, IsEndOf, IsRefusedImage, IsPastHeader}
use Rattle.image_subcommands.specs.Statuses.{MayComeFirst, ComesExactly}

-- a disk, and the source and the sink that a work was made of
abbrev pub around : {D R W : Type 0} → D → R × W → Outside D R W
around disk given = outside_of disk given.0 given.1

-- a call that ended so before any work was done
abbrev pub idle_with : {D R W : Type 0} → Status → D → R × W → Outcome D R W
idle_with status disk given = record {
  status = status;
  done = 0;
  disk = disk;
  source = given.0;
  sink = given.1;
}

-- a call that opens an image ends so only after it was opened
abbrev pub IsAfterOpening : Status → Type 0
IsAfterOpening status = IsTrue (not (row status).may_come_first && not (row status).refuses_image)

-- ---- what is promised

module _ {D R W : Type 0} (disk_of : D → DiskState) where
  -- What such a call does on a disk that tells its bytes.
  pub record WorksOnDisk (Does : Tree → Parameters → Outside D R W → Outcome D R W → Type 0) (before : Outside D R W)
      (after : Outcome D R W) : Type 0 where
    -- how it ends
    pub not_image : ComesExactly statuses.NotImage (IsNoImage (disk_of before.disk)) MayComeFirst after.status
    pub damaged : ComesExactly statuses.Damaged (IsDamaged (disk_of before.disk)) MayComeFirst after.status
    pub represented : IsAfterOpening after.status → RepresentsSome (disk_of before.disk)
    -- an image that represents no tree is left as it is, and a crash leaves what one before the call might have
    pub nothing : ((t : Tree) (p : Parameters) → Represents (disk_of before.disk).bytes t p → ⊥)
        → IsIdle before after × LeavesImage (disk_of before.disk) (disk_of after.disk)
    -- and what is done on one that represents a tree
    pub does : (t : Tree) (p : Parameters) → Represents (disk_of before.disk).bytes t p → Does t p before after

  -- What such a call does, by the subcommand with this word.
  pub record Works (word : Subcommand) (Keeps : Outside D R W → Outcome D R W → Type 0)
      (Does : Tree → Parameters → Outside D R W → Outcome D R W → Type 0) (before : Outside D R W)
      (after : Outcome D R W) : Type 0 where
    -- how it ends
    pub ends : IsStatusOf word after.status
    pub named : IsPastHeader after.status → (p : Parameters) × HasParameters (disk_of before.disk) p
    -- where the image is refused nothing is taken, printed or done
    pub refused : IsRefusedImage after.status → IsIdle before after
    -- what is left, whatever the disk holds
    pub keeps : Keeps before after
    -- and what holds of the image
    pub observed : IsObservable (disk_of before.disk) → WorksOnDisk Does before after

-- ---- what a work promises

-- A store that is ready for a work.
pub record IsReady {D : Type 0} (disk_of : D → DiskState) (store : StoreState D) : Type 0 where
  pub runs : store.is_stopped ≡ false
  pub fitting : IsFitting store.tree store.params
  pub stands : IsObservable (disk_of store.disk) → Stands (disk_of store.disk) store.tree store.params

module _ {D R W : Type 0} (disk_of : D → DiskState) where
  -- What a work promises of a call that could not open its image, for this fault.
  pub record IsUnopened (word : Subcommand) (Keeps : Outside D R W → Outcome D R W → Type 0)
      (Does : Tree → Parameters → Outside D R W → Outcome D R W → Type 0) (given : R × W) (disk : D)
      (fault : AttachFault) (disk_new : D) : Type 0 where
    -- it may end for want of memory, as by a fault of the disk; and of an image, as by a damaged one
    pub fails : IsStatusOf word statuses.NoMemory
    pub refuses : IsStatusOf word statuses.NotImage
    pub keeps : Keeps (around disk given) (idle_with (attach_status fault) disk_new given)
    pub does : IsObservable (disk_of disk) → (t : Tree) (p : Parameters) → Represents (disk_of disk).bytes t p
        → KeepsImage t p (disk_of disk) fault (disk_of disk_new)
        → Does t p (around disk given) (idle_with (attach_status fault) disk_new given)

  -- What a work promises of a store, whatever disk that was opened from.
  pub record WorksOnStore (source_of : R → SourceState) (sink_of : W → SinkState) (word : Subcommand)
      (Keeps : Outside D R W → Outcome D R W → Type 0)
      (Does : Tree → Parameters → Outside D R W → Outcome D R W → Type 0) (given : R × W) (store : StoreState D)
      (after : Outcome D R W) : Type 0 where
    pub ends : IsEndOf word after.status
    pub outside : KeepsOutside after.status (disk_of store.disk) (disk_of after.disk) (source_of given.0)
        (source_of after.source) (sink_of given.1) (sink_of after.sink)
    pub keeps : (disk : D) → Keeps (around disk given) after
    pub does : (disk : D) → IsAttached disk_of (disk_of disk) store → IsObservable (disk_of disk)
        → Does store.tree store.params (around disk given) after
