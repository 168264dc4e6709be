-- What `check` and `info` promise.
use Rattle.std.specs.Prelude.{ℕ, Bool, false, not, List, [], Option, Some, None, Result, Ok, Err, if◌then◌else◌}
use Rattle.store_model.specs.Lists.{same_bytes}
use Rattle.disk_model.specs.DiskState.{DiskState}
use Rattle.script_lines.specs.SinkState.{SinkState, IsPut}
use Rattle.script_lines.specs.declared.fault.SinkFault.{SinkFault}
use Rattle.image_summary.specs.declared.summary.Summary.{Summary}
use Rattle.image_summary.specs.declared.summary.SummaryFault.{SummaryFault}
use Rattle.image_summary.specs.Summaries.{Summarizes}
use Rattle.box_words.specs.declared.status.Status.{Status}
use Rattle.box_calls.specs.declared.trouble.Trouble.{Trouble}
use Rattle.box_calls.specs.declared.trouble.Trouble.TheVariants as troubles
use Rattle.box_calls.specs.Endings.{summary_trouble, Ends}
use Rattle.box_calls.specs.Texts.{sound_text, fault_text, info_text}

-- whether a digest differs from the one that was given, if one was
abbrev pub differs_from : Option (List ℕ) → List ℕ → Bool
differs_from None digest = false
differs_from (Some given) digest = not (same_bytes given digest)

-- what `check` prints
abbrev pub check_text : Option (List ℕ) → Result Summary SummaryFault → List ℕ
check_text given (Ok s) = sound_text s (differs_from given s.digest)
check_text given (Err fault) = fault_text fault

-- what a check comes to that finds this, where all is printed
abbrev pub check_found : Option (List ℕ) → Result Summary SummaryFault → Result (Unit {0}) Trouble
check_found given (Ok s) = if differs_from given s.digest then Err troubles.Digest else Ok tt
check_found given (Err fault) = Err (summary_trouble fault)

-- what `info` prints
abbrev pub info_of : Result Summary SummaryFault → List ℕ
info_of (Ok s) = info_text s.contents
info_of (Err fault) = []

-- what `info` comes to that finds this, where all is printed
abbrev pub info_found : Result Summary SummaryFault → Result (Unit {0}) Trouble
info_found (Ok s) = Ok tt
info_found (Err fault) = Err (summary_trouble fault)

-- what a call came to that comes to this where all is printed, and whose text was put so, and whose last bytes
abbrev pub printed : Result (Unit {0}) Trouble → Result (Unit {0}) SinkFault → Result (Unit {0}) SinkFault
    → Result (Unit {0}) Trouble
printed found (Err fault) flushed = Err troubles.Output
printed found (Ok done) (Err fault) = Err troubles.Output
printed found (Ok done) (Ok end) = found

-- A disk's image is summed up. This text of it goes to the first sink; the second gets what is said.
pub record Prints (text : Result Summary SummaryFault → List ℕ)
    (comes_to : Result Summary SummaryFault → Result (Unit {0}) Trouble) (disk disk_new : DiskState)
    (old new say say_new : SinkState) (status : Status) : Type 0 where
  pub found : Result Summary SummaryFault
  pub sums : Summarizes disk disk_new found
  -- how the text was put, the first sink then, and how its last bytes were put
  pub put : Result (Unit {0}) SinkFault
  pub between : SinkState
  pub flushed : Result (Unit {0}) SinkFault
  pub puts : IsPut old between (text found) put
  pub flushes : IsPut between new [] flushed
  pub ends : Ends (printed (comes_to found) put flushed) status say say_new
