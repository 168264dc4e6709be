-- Where a call ends well that reads an image, its last bytes were put.
use Rattle.std.proofs.Common.{◌≡◌, Result, Ok, Err, OnOk}
use Rattle.script_lines.specs.declared.fault.SinkFault.{SinkFault}
use Rattle.dump_views.specs.declared.content.Standing.{Standing}
use Rattle.dump_views.specs.declared.content.Standing.TheVariants as standings
use Rattle.image_reads.specs.declared.fault.ReadFault.{ReadFault}
use Rattle.image_reads.specs.declared.found.FileFound.{FileFound}
use Rattle.image_reads.specs.declared.found.FileFound.TheVariants as founds
use Rattle.box_words.specs.declared.status.Status.TheVariants as statuses
use Rattle.box_calls.specs.declared.trouble.Trouble.TheVariants as troubles
use Rattle.box_calls.specs.declared.get.Target.{Target}
use Rattle.box_calls.specs.Endings.{ended_status}
use Rattle.box_calls.specs.Gets.{get_trouble, got, target_trouble}
use Rattle.box_calls.specs.Listings.{listed}
use Rattle.box_calls.specs.Readings.{read_trouble}
use Rattle.box_calls.proofs.Flushing.{never_done}

module _ {A : Type 0} where
  pub got_flushed : (target : Target) (found : Result FileFound ReadFault) (flushed : Result (Unit {0}) SinkFault)
      → ended_status (got target found flushed) ≡ statuses.Done → OnOk flushed A → A
  got_flushed target (Ok founds.File) (Ok done) e a = a
  got_flushed target (Ok founds.File) (Err fault) e a = absurd (never_done (target_trouble target) e)
  got_flushed target (Ok founds.Folder) flushed e a = absurd (never_done troubles.Folder e)
  got_flushed target (Ok (founds.Link leads)) flushed e a = absurd (never_done troubles.Link e)
  got_flushed target (Ok founds.Nothing) flushed e a = absurd (never_done troubles.Nothing e)
  got_flushed target (Err fault) flushed e a = absurd (never_done (get_trouble target fault) e)

  pub listed_flushed : (found : Result Standing ReadFault) (flushed : Result (Unit {0}) SinkFault)
      → ended_status (listed found flushed) ≡ statuses.Done → OnOk flushed A → A
  listed_flushed (Err fault) flushed e a = absurd (never_done (read_trouble fault) e)
  listed_flushed (Ok standings.Nothing) flushed e a = absurd (never_done troubles.Nothing e)
  listed_flushed (Ok standings.Directory) (Ok done) e a = a
  listed_flushed (Ok standings.Directory) (Err fault) e a = absurd (never_done troubles.Output e)
  listed_flushed (Ok standings.File) (Ok done) e a = a
  listed_flushed (Ok standings.File) (Err fault) e a = absurd (never_done troubles.Output e)
