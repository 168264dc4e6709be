-- A call for which memory ran out before anything was called keeps the promise of whatever is asked for.
use Rattle.store_model.specs.Parameters.{Parameters}
use Rattle.store_model.specs.Trees.{Tree}
use Rattle.store_model.specs.Words.{Request}
use Rattle.store_model.specs.Words.Request.{Format, Big}
use Rattle.disk_model.specs.DiskState.{DiskState, IsObservable, IsSound}
use Rattle.script_lines.specs.SinkState.{SinkState}
use Rattle.script_lines.specs.SourceState.{SourceState}
use Rattle.image_check.specs.declared.fault.AttachFault.TheVariants as faults
use Rattle.store_core.specs.StoreCalls.{IsRefused}
use Rattle.image_subcommands.specs.declared.outcome.Outcome.{Outcome}
use Rattle.image_subcommands.specs.Outside.{Outside, outside_of}
use Rattle.image_subcommands.specs.Statuses.{Subcommand}
use Rattle.image_subcommands.proofs.UncalledLemmas.{without_memory, format_uncalled, check_uncalled, scrub_uncalled}
use Rattle.image_subcommands.proofs.UncalledLemmas.{wipe_uncalled}
use Rattle.image_work.specs.Works.{Works, IsUnopened}
use Rattle.image_work.proofs.OpeningEnds.{nothing_opened}
use Rattle.image_work.proofs.WorkEnds.{works_unopened}
use Rattle.listing_subcommands.proofs.DumpEnds.{dump_unopened}
use Rattle.listing_subcommands.proofs.LoadCalls.{load_unopened}
use Rattle.store_top.specs.Performing.{Performs}
use Rattle.script_runs.specs.declared.script.Answering.TheVariants as answering
use Rattle.script_runs.proofs.RunEnds.{big_unopened, script_unopened}
use Rattle.store_top.proofs.UpgradeEnds.{upgrade_unopened}

module _ {D R W : Type 0} (disk_of : D → DiskState) (source_of : R → SourceState) (sink_of : W → SinkState)
    (sound : (disk : D) → IsObservable (disk_of disk) → IsSound (disk_of disk)) (disk : D) (source : R) (sink : W) where
  abbrev before : Outside D R W
  before = outside_of disk source sink

  abbrev given : R × W
  given = (source, sink)

  nothing : IsRefused (disk_of disk) faults.NoMemory (disk_of disk)
  nothing = nothing_opened (disk_of disk) (sound disk)

  -- of a subcommand that opens an image
  opened : {word : Subcommand} {Keeps : Outside D R W → Outcome D R W → Type 0}
      {Does : Tree → Parameters → Outside D R W → Outcome D R W → Type 0}
      → IsUnopened disk_of word Keeps Does given disk faults.NoMemory disk
      → Works disk_of word Keeps Does before (without_memory before)
  opened {word} {Keeps} {Does} unopened =
      works_unopened disk_of word Keeps Does given disk faults.NoMemory disk nothing unopened

  -- of what each of them promises without memory, that which fits
  pub performs_uncalled : (request : Request)
      → Performs disk_of source_of sink_of request before (without_memory before)
  performs_uncalled (Format p) = format_uncalled disk_of sink_of sound before p
  performs_uncalled (Big number count) = opened
      (big_unopened disk_of source_of sink_of sound given disk faults.NoMemory disk nothing number count)
  performs_uncalled request = assumption (
    check_uncalled disk_of sink_of sound before,
    scrub_uncalled disk_of sink_of sound before,
    wipe_uncalled disk_of sink_of sound before,
    opened (script_unopened disk_of source_of sink_of sound given disk faults.NoMemory disk nothing answering.Commands),
    opened (script_unopened disk_of source_of sink_of sound given disk faults.NoMemory disk nothing answering.Calls),
    opened (upgrade_unopened disk_of given disk faults.NoMemory disk nothing),
    opened (dump_unopened disk_of sink_of given disk faults.NoMemory disk nothing),
    opened (load_unopened disk_of source_of sink_of given disk faults.NoMemory disk nothing),
  )
