-- What `get` promises.
use Rattle.std.specs.Prelude.{[], Result, Ok, Err, IfErr}
use Rattle.store_model.specs.Paths.{Path}
use Rattle.disk_model.specs.DiskState.{DiskState, IsObservable}
use Rattle.script_lines.specs.SinkState.{SinkState, IsPut}
use Rattle.script_lines.specs.declared.fault.SinkFault.{SinkFault}
use Rattle.recovered_store.specs.BelowDisks.{IsUntouched}
use Rattle.image_reads.specs.declared.fault.ReadFault.{ReadFault}
use Rattle.image_reads.specs.declared.fault.ReadFault.TheVariants as reads
use Rattle.image_reads.specs.declared.found.FileFound.{FileFound}
use Rattle.image_reads.specs.declared.found.FileFound.TheVariants as founds
use Rattle.image_reads.specs.Reads.{ReadsFile, IsUnread}
use Rattle.box_words.specs.declared.status.Status.{Status}
use Rattle.box_calls.specs.declared.trouble.Trouble.{Trouble}
use Rattle.box_calls.specs.declared.trouble.Trouble.TheVariants as troubles
use Rattle.box_calls.specs.declared.get.Target.{Target}
use Rattle.box_calls.specs.declared.get.Target.TheVariants as targets
use Rattle.box_calls.specs.Endings.{Ends}

-- the trouble where the bytes could not be written
abbrev pub target_trouble : Target → Trouble
target_trouble targets.Output = troubles.Output
target_trouble targets.File = troubles.File

-- the trouble that a fault of reading is
abbrev pub get_trouble : Target → ReadFault → Trouble
get_trouble target reads.NotImage = troubles.NotImage
get_trouble target reads.Damaged = troubles.Damaged
get_trouble target reads.Disk = troubles.Disk
get_trouble target reads.NoMemory = troubles.NoMemory
get_trouble target reads.Changed = troubles.Changed
get_trouble target reads.Output = target_trouble target

-- what the copy of a file came to that was found so, and whose last bytes were put so
abbrev pub got : Target → Result FileFound ReadFault → Result (Unit {0}) SinkFault → Result (Unit {0}) Trouble
got target (Ok founds.File) (Ok done) = Ok tt
got target (Ok founds.File) (Err fault) = Err (target_trouble target)
got target (Ok founds.Folder) flushed = Err troubles.Folder
got target (Ok (founds.Link leads)) flushed = Err troubles.Link
got target (Ok founds.Nothing) flushed = Err troubles.Nothing
got target (Err fault) flushed = Err (get_trouble target fault)

-- The file at a path of a disk's image is read into the first sink; the second gets what is said. The disk is only
-- read.
pub record Gets (path : Path) (target : Target) (disk disk_new : DiskState) (old new say say_new : SinkState)
    (status : Status) : Type 0 where
  pub found : Result FileFound ReadFault
  pub flushed : Result (Unit {0}) SinkFault
  -- the first sink before its last bytes were put
  pub between : SinkState
  pub reads : ReadsFile path disk old between found
  pub unread : IfErr found (IsUnread disk disk_new)
  pub untouched : IsObservable disk → IsUntouched disk disk_new
  pub put : IsPut between new [] flushed
  pub ends : Ends (got target found flushed) status say say_new
