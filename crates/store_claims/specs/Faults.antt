-- When a call is done.
use Rattle.std.specs.Prelude.{◌≡◌, ◌≢◌, ◌⊎◌, ◌≤◌, ℕ, List, length, slice_index}
use Rattle.store_model.specs.Parameters.{Parameters, image_len}
use Rattle.store_model.specs.Trees.{Tree}
use Rattle.store_model.specs.Images.{first_byte, Represents}
use Rattle.store_model.specs.Scripts.{script_limit}
use Rattle.store_model.specs.Words.{Request}
use Rattle.store_model.specs.Words.Request.{Format, Run, Session, Scrub, Wipe, Load}
use Rattle.store_base.specs.Counts.{Rose}
use Rattle.disk_model.specs.DiskState.{DiskState}
use Rattle.disk_model.specs.DiskState as disks
use Rattle.scrub_free.specs.ScrubCalls.{ScrubsTo}
use Rattle.script_lines.specs.SourceState.{SourceState}
use Rattle.script_lines.specs.SourceState as sources
use Rattle.script_lines.specs.SinkState.{SinkState}
use Rattle.image_subcommands.specs.declared.status.Status.{Status}
use Rattle.image_subcommands.specs.declared.status.Status.TheVariants.{NoMemory}
use Rattle.image_subcommands.specs.Statuses.{IsDone}
use Rattle.listing_subcommands.specs.LoadCall.{CanBeLoaded}

-- no call of the disk, the source or the sink failed
pub record NoneFailed (disk disk_new : DiskState) (source source_new : SourceState)
    (sink sink_new : SinkState) : Type 0 where
  pub disk_well : Rose disk.faults disk_new.faults → ⊥
  pub source_well : Rose source.faults source_new.faults → ⊥
  pub sink_well : Rose sink.faults sink_new.faults → ⊥

-- the work is done, or memory ran out
abbrev pub IsDoneOrLacks : Status → Type 0
IsDoneOrLacks status = IsDone status ⊎ (status ≡ NoMemory)

-- the disk holds an image into which a listing that the script is can be loaded
abbrev pub TakesListing : DiskState → List ℕ → Type 0
TakesListing disk script =
    (u : Tree) × (t : Tree) × (p : Parameters) × Represents disk.bytes u p × CanBeLoaded u t p script

-- the disk tells its bytes, and they represent a tree
abbrev pub HoldsTree : DiskState → Type 0
HoldsTree disk = disks.IsObservable disk × ((t : Tree) × (p : Parameters) × Represents disk.bytes t p)

-- the source tells its bytes, and they are no more than a script may have
abbrev pub HasScript : SourceState → Type 0
HasScript source = sources.IsObservable source × (length source.left ≤ script_limit)

-- What is asked for can be done. A disk of the image's length that does not begin as one can be formatted. An image
-- that represents a tree can be run, checked, upgraded and dumped, and can answer a script of sessions and the commands
-- of a number. An image of which scrubbing leaves a tree's can be scrubbed. Into an image a listing can be loaded as
-- `CanBeLoaded` says. Any disk can be wiped.
abbrev pub CanBeDone : Request → DiskState → SourceState → Type 0
CanBeDone (Format p) disk source = disks.IsObservable disk × (disk.size ≡ image_len p.slots)
    × (slice_index disk.bytes 0 ≢ first_byte)
CanBeDone Run disk source = HasScript source × HoldsTree disk
CanBeDone Session disk source = HasScript source × HoldsTree disk
CanBeDone Scrub disk source = disks.IsObservable disk × ((t : Tree) × (p : Parameters) × ScrubsTo disk.bytes t p)
CanBeDone Wipe disk source = Unit {0}
CanBeDone Load disk source = HasScript source × disks.IsObservable disk × TakesListing disk source.left
CanBeDone request disk source = HoldsTree disk
