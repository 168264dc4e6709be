-- What `wipe` promises.
use Rattle.std.specs.Prelude.{◌≡◌, ◌⊎◌, ◌+◌, ◌<◌, length}
use Rattle.store_model.specs.Lists.{zeros}
use Rattle.store_base.specs.Counts.{Rose}
use Rattle.disk_model.specs.DiskState.{DiskState, IsObservable, IsDurable}
use Rattle.disk_model.specs.DiskCalls.{LeavesOnly}
use Rattle.gate_journal.specs.Wipes.{IsWiping, block_count}
use Rattle.gate_journal.specs.Places.{Made}
use Rattle.gate_journal.specs.Costs.{MadeAtMost}
use Rattle.image_subcommands.specs.declared.outcome.Outcome.{Outcome}
use Rattle.image_subcommands.specs.declared.status.Status.{Status}
use Rattle.image_subcommands.specs.declared.status.Status.TheVariants as statuses
use Rattle.image_subcommands.specs.Outside.{Outside}
use Rattle.image_subcommands.specs.Statuses.{Subcommand as words, IsStatusOf, done_of_work}

-- every byte is zero, and a crash leaves just that
pub record IsWiped (old new : DiskState) : Type 0 where
  pub zero : new.bytes ≡ zeros (length old.bytes)
  pub durable : IsDurable new

-- Wiping writes the first byte and then each block once, and syncs after either; with a fault no more.
pub record CountsWipe (status : Status) (old new : DiskState) : Type 0 where
  pub done : status ≡ statuses.Done → Made (1 + block_count old.size) 2 old new
  pub limit : MadeAtMost (1 + block_count old.size) 2 old new

-- What a wipe does to an observable disk. An image on its way has the old bytes with any first byte, or begins with
-- zero: so is what the disk reads, after a fault too, and each image that a crash may leave, if nothing was pending
-- before.
pub record WipesDisk (status : Status) (old new : DiskState) : Type 0 where
  pub wiped : status ≡ statuses.Done → IsWiped old new
  pub reads : IsWiping old.bytes new.bytes
  pub crash : IsDurable old → LeavesOnly old new (IsWiping old.bytes)
  pub counts : 0 < old.size → CountsWipe status old new

module _ {D R W : Type 0} (disk_of : D → DiskState) where
  pub record IsWipe (before : Outside D R W) (after : Outcome D R W) : Type 0 where
    -- how it ends
    pub ends : IsStatusOf words.Wipe after.status
    pub done : after.done ≡ done_of_work after.status
    -- it is done where no call failed and memory was there
    pub complete : (Rose (disk_of before.disk).faults (disk_of after.disk).faults → ⊥)
        → (after.status ≡ statuses.Done) ⊎ (after.status ≡ statuses.NoMemory)
    -- what stands then
    pub source : after.source ≡ before.source
    pub sink : after.sink ≡ before.sink
    pub no_memory : after.status ≡ statuses.NoMemory → after.disk ≡ before.disk
    -- of a disk of no byte nothing is called
    pub empty : (disk_of before.disk).size ≡ 0 → after.disk ≡ before.disk
    pub wipes : IsObservable (disk_of before.disk) → WipesDisk after.status (disk_of before.disk) (disk_of after.disk)
