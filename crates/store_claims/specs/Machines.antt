-- The disks, sources and sinks of the sentences, all of them in memory, and what is said of them around a call.
use Rattle.std.specs.Prelude.{◌≡◌, ◌≤◌, ℕ, List}
use Rattle.store_model.specs.Parameters.{Parameters}
use Rattle.store_model.specs.Trees.{Tree}
use Rattle.store_model.specs.Images.{layout, Represents}
use Rattle.store_base.specs.Counts.{Rose}
use Rattle.disk_model.specs.declared.failing.FailingDisk.{FailingDisk}
use Rattle.disk_model.specs.DiskState.{DiskState}
use Rattle.disk_model.specs.FailingDisk.{failing_state}
use Rattle.disk_model.specs.Memory.{Memory, memory_state}
use Rattle.script_lines.specs.Memory.{SourceMemory, SinkMemory}
use Rattle.image_subcommands.specs.declared.outcome.Outcome.{Outcome}

-- a disk in memory, some of whose calls may fail
abbrev pub Disk : Type 0
Disk = FailingDisk Memory

-- how a call ended, with what it was given
abbrev pub Ended : Type 0
Ended = Outcome Disk SourceMemory SinkMemory

-- what the disk means
abbrev pub meaning : Disk → DiskState
meaning disk = failing_state memory_state disk

-- the bytes that it reads
abbrev pub bytes_of : Disk → List ℕ
bytes_of disk = disk.disk.bytes

-- a crash now may leave this image
abbrev pub MayLeave : Disk → List ℕ → Type 0
MayLeave disk image = (meaning disk).crash_images image

-- a crash at some moment from this one on, up to now, might have left this image
abbrev pub MightHaveLeft : ℕ → Disk → List ℕ → Type 0
MightHaveLeft moment disk image = (meaning disk).crash_images_since moment image

-- The disk reads, byte for byte, as the image of the tree, and a crash leaves just that.
pub record HasImage (disk : Disk) (t : Tree) (p : Parameters) : Type 0 where
  pub bytes : bytes_of disk ≡ layout t p
  pub durable : (image : List ℕ) → MayLeave disk image → image ≡ layout t p

-- The image is of the tree after some pieces of work, at most so many, over the trees that these leave.
pub record RepresentsSomeTree (limit : ℕ) (trees : ℕ → Tree) (p : Parameters) (image : List ℕ) : Type 0 where
  pub count : ℕ
  pub in_limit : count ≤ limit
  pub represents : Represents image (trees count) p

-- No call of the disk, the source and the sink failed.
pub record NothingFailed (disk : Disk) (source : SourceMemory) (sink : SinkMemory) (after : Ended) : Type 0 where
  pub disk_spared : Rose (meaning disk).faults (meaning after.disk).faults → ⊥
  pub source_spared : Rose source.faults after.source.faults → ⊥
  pub sink_spared : Rose sink.faults after.sink.faults → ⊥
