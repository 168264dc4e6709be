-- What `extract` promises.
use Rattle.std.specs.Prelude.{ℕ, Bool, List, Result, Ok, Err, IfErr}
use Rattle.store_model.specs.Paths.{Path}
use Rattle.disk_model.specs.DiskState.{DiskState, IsObservable}
use Rattle.script_lines.specs.SinkState.{SinkState}
use Rattle.host_builder.specs.declared.attribute.Wanted.{Wanted}
use Rattle.host_builder.specs.Builders.{BuilderState}
use Rattle.recovered_store.specs.BelowDisks.{IsUntouched}
use Rattle.image_reads.specs.declared.fault.ReadFault.{ReadFault}
use Rattle.image_reads.specs.declared.fault.ReadFault.TheVariants as reads
use Rattle.image_extract.specs.declared.fault.ExtractFault.{ExtractFault}
use Rattle.image_extract.specs.declared.fault.ExtractFault.TheVariants as extracts
use Rattle.image_extract.specs.Extracts.{Extracts, IsUnextracted}
use Rattle.box_words.specs.declared.status.Status.{Status}
use Rattle.box_calls.specs.declared.trouble.Trouble.{Trouble}
use Rattle.box_calls.specs.declared.trouble.Trouble.TheVariants as troubles
use Rattle.box_calls.specs.Counted.{counted_state}
use Rattle.box_calls.specs.Makings.{EndsMade}

-- the trouble that a fault of reading is, where what is read goes to a builder, which says itself what failed
abbrev pub host_trouble : ReadFault → Trouble
host_trouble reads.NotImage = troubles.NotImage
host_trouble reads.Damaged = troubles.Damaged
host_trouble reads.Disk = troubles.Disk
host_trouble reads.NoMemory = troubles.NoMemory
host_trouble reads.Changed = troubles.Changed
host_trouble reads.Output = troubles.Host

-- what an extraction came to that ended so
abbrev pub extract_trouble : Result (Unit {0}) ExtractFault → Result (Unit {0}) Trouble
extract_trouble (Ok done) = Ok tt
extract_trouble (Err (extracts.Missing number)) = Err troubles.Nothing
extract_trouble (Err (extracts.NoName path)) = Err troubles.Host
extract_trouble (Err (extracts.Read fault)) = Err (host_trouble fault)

-- What paths ask for of a disk's image is made by a builder, as far as it is wanted; the sink gets what is said. The
-- disk is only read.
pub record ExtractsPaths (sums_up : Bool) (wanted : Wanted) (paths : List Path) (disk disk_new : DiskState)
    (old new : BuilderState) (say say_new : SinkState) (status : Status) : Type 0 where
  pub done : Result (Unit {0}) ExtractFault
  -- how much of what was made could not be taken away again, and how many entries were left out
  pub stays : ℕ
  pub left_out : ℕ
  pub extracts : Extracts wanted paths disk (counted_state old 0) (counted_state new left_out) stays done
  pub unread : IfErr done (IsUnextracted wanted paths disk disk_new)
  pub untouched : IsObservable disk → IsUntouched disk disk_new
  pub ends : EndsMade sums_up (extract_trouble done) left_out status say say_new
