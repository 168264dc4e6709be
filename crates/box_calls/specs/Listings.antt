-- What `ls` promises.
use Rattle.std.specs.Prelude.{[], Result, Ok, Err, IfErr}
use Rattle.store_model.specs.Paths.{Path}
use Rattle.disk_model.specs.DiskState.{DiskState, IsObservable}
use Rattle.script_lines.specs.SinkState.{SinkState, IsPut}
use Rattle.script_lines.specs.declared.fault.SinkFault.{SinkFault}
use Rattle.recovered_store.specs.BelowDisks.{IsUntouched}
use Rattle.dump_views.specs.declared.content.Standing.{Standing}
use Rattle.dump_views.specs.declared.content.Standing.TheVariants as standings
use Rattle.entry_lines.specs.declared.form.ListForm.{ListForm}
use Rattle.image_reads.specs.declared.fault.ReadFault.{ReadFault}
use Rattle.image_reads.specs.Lists.{ListsImage}
use Rattle.image_reads.specs.Reads.{IsUnread}
use Rattle.box_words.specs.declared.status.Status.{Status}
use Rattle.box_calls.specs.declared.trouble.Trouble.{Trouble}
use Rattle.box_calls.specs.declared.trouble.Trouble.TheVariants as troubles
use Rattle.box_calls.specs.Endings.{Ends}
use Rattle.box_calls.specs.Readings.{read_trouble}

-- what a list came to that ended so, and whose last lines were put so
abbrev pub listed : Result Standing ReadFault → Result (Unit {0}) SinkFault → Result (Unit {0}) Trouble
listed (Err fault) flushed = Err (read_trouble fault)
listed (Ok standings.Nothing) flushed = Err troubles.Nothing
listed (Ok standings.Directory) (Ok done) = Ok tt
listed (Ok standings.Directory) (Err fault) = Err troubles.Output
listed (Ok standings.File) (Ok done) = Ok tt
listed (Ok standings.File) (Err fault) = Err troubles.Output

-- The lines of what stands at a path of a disk's image go to the first sink; the second gets what is said. The
-- disk is only read.
pub record Lists (path : Path) (form : ListForm) (disk disk_new : DiskState) (old new say say_new : SinkState)
    (status : Status) : Type 0 where
  pub found : Result Standing ReadFault
  pub flushed : Result (Unit {0}) SinkFault
  -- the first sink before its last lines were put
  pub between : SinkState
  pub reads : ListsImage form path disk old between found
  pub unread : IfErr found (IsUnread disk disk_new)
  pub untouched : IsObservable disk → IsUntouched disk disk_new
  pub put : IsPut between new [] flushed
  pub ends : Ends (listed found flushed) status say say_new
