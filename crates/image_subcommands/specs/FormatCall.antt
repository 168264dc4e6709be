-- What `format` promises.
use Rattle.std.specs.Prelude.{◌≡◌, ◌≢◌, ◌⊎◌, ◌/◌, ◌+◌, slice_index}
use Rattle.store_model.specs.Parameters.{Parameters, image_len, block_len}
use Rattle.store_model.specs.Trees.{empty_tree}
use Rattle.store_model.specs.Images.{first_byte}
use Rattle.store_base.specs.Counts.{Rose}
use Rattle.disk_model.specs.DiskState.{DiskState, IsObservable, IsDurable}
use Rattle.disk_model.specs.DiskCalls.{LeavesOnly}
use Rattle.gate_journal.specs.Formats.{IsEmptyOrNone}
use Rattle.gate_journal.specs.Places.{Made, ReadsOnly}
use Rattle.gate_journal.specs.Costs.{MadeAtMost}
use Rattle.image_check.specs.Standing.{Stands}
use Rattle.image_subcommands.specs.declared.outcome.Outcome.{Outcome}
use Rattle.image_subcommands.specs.declared.status.Status.{Status}
use Rattle.image_subcommands.specs.declared.status.Status.TheVariants as statuses
use Rattle.image_subcommands.specs.Outside.{Outside}
use Rattle.image_subcommands.specs.Statuses.{Subcommand as words, IsStatusOf, IsRefusedDisk, MayComeFirst, ComesExactly}
use Rattle.image_subcommands.specs.Statuses.{done_of_work}

-- the disk has the length of an image with these parameters, and begins as an image does
pub record BeginsAsImage (disk : DiskState) (p : Parameters) : Type 0 where
  pub size_is : disk.size ≡ image_len p.slots
  pub first_is : slice_index disk.bytes 0 ≡ first_byte

-- it has that length, and does not begin as an image does
pub record IsBlank (disk : DiskState) (p : Parameters) : Type 0 where
  pub size_is : disk.size ≡ image_len p.slots
  pub other_byte : slice_index disk.bytes 0 ≢ first_byte

-- Formatting a blank disk writes each of its blocks once and then the first byte, and syncs after either; with a
-- fault no more.
pub record CountsFormat (status : Status) (p : Parameters) (old new : DiskState) : Type 0 where
  pub done : status ≡ statuses.Done → Made (image_len p.slots / block_len + 1) 2 old new
  pub limit : MadeAtMost (image_len p.slots / block_len + 1) 2 old new

-- A blank disk is formatted: what it reads, after a fault too, is no image or that of the empty tree, and so is each
-- image that a crash may leave, if nothing was pending before.
pub record FormatsBlank (status : Status) (p : Parameters) (old new : DiskState) : Type 0 where
  pub reads : IsEmptyOrNone p new.bytes
  pub crash : IsDurable old → LeavesOnly old new (IsEmptyOrNone p)
  pub counts : CountsFormat status p old new
  -- it is done where no call failed and memory was there
  pub complete : (Rose old.faults new.faults → ⊥) → (status ≡ statuses.Done) ⊎ (status ≡ statuses.NoMemory)

-- A format of a disk that tells its bytes.
pub record FormatsDisk (status : Status) (p : Parameters) (old new : DiskState) : Type 0 where
  pub already_image : ComesExactly statuses.AlreadyImage (BeginsAsImage old p) MayComeFirst status
  pub formatted : status ≡ statuses.Done → Stands new empty_tree p
  pub refused : IsRefusedDisk status → ReadsOnly old new
  pub keeps : slice_index old.bytes 0 ≡ first_byte → ReadsOnly old new
  pub blank : IsBlank old p → FormatsBlank status p old new

module _ {D R W : Type 0} (disk_of : D → DiskState) where
  pub record IsFormat (p : Parameters) (before : Outside D R W) (after : Outcome D R W) : Type 0 where
    -- how it ends
    pub ends : IsStatusOf words.Format after.status
    pub done : after.done ≡ done_of_work after.status
    pub wrong_length : ComesExactly statuses.WrongLength ((disk_of before.disk).size ≢ image_len p.slots)
        (λ status. status ≡ statuses.NoMemory) after.status
    pub right_length : after.status ≡ statuses.AlreadyImage → (disk_of before.disk).size ≡ image_len p.slots
    -- what stands then
    pub source : after.source ≡ before.source
    pub sink : after.sink ≡ before.sink
    pub no_memory : after.status ≡ statuses.NoMemory → after.disk ≡ before.disk
    pub observed : IsObservable (disk_of before.disk)
        → FormatsDisk after.status p (disk_of before.disk) (disk_of after.disk)
