-- Where a call ends well, its last bytes were put.
use Rattle.std.proofs.Common.{◌≡◌, Result, Ok, Err, OnOk}
use Rattle.script_lines.specs.declared.fault.SinkFault.{SinkFault}
use Rattle.slot_map.specs.declared.fault.MapFault.{MapFault}
use Rattle.box_words.specs.declared.status.Status.TheVariants as statuses
use Rattle.box_calls.specs.declared.trouble.Trouble.{Trouble}
use Rattle.box_calls.specs.declared.trouble.Trouble.TheVariants as troubles
use Rattle.box_calls.specs.Checks.{printed}
use Rattle.box_calls.specs.Endings.{ended_status, status_of}
use Rattle.box_calls.specs.Maps.{map_trouble, mapped}

-- no trouble ends well
pub never_done : (trouble : Trouble) → status_of trouble ≡ statuses.Done → ⊥
never_done troubles.NotImage e = absurd cc
never_done troubles.Damaged e = absurd cc
never_done troubles.Disk e = absurd cc
never_done troubles.Changed e = absurd cc
never_done troubles.NoMemory e = absurd cc
never_done troubles.Output e = absurd cc
never_done troubles.File e = absurd cc
never_done troubles.Nothing e = absurd cc
never_done troubles.Folder e = absurd cc
never_done troubles.Link e = absurd cc
never_done troubles.Digest e = absurd cc
never_done troubles.Host e = absurd cc
never_done troubles.Obstacles e = absurd cc
never_done troubles.TooMany e = absurd cc
never_done troubles.Moving e = absurd cc
never_done troubles.Input e = absurd cc
never_done troubles.NoListing e = absurd cc
never_done troubles.LongListing e = absurd cc
never_done troubles.Unwritten e = absurd cc
never_done troubles.Full e = absurd cc
never_done troubles.TooMuch e = absurd cc
never_done (troubles.Refused reason) e = absurd cc
never_done troubles.Crowded e = absurd cc
never_done troubles.LongSource e = absurd cc
never_done troubles.Failed e = absurd cc

-- so the last bytes of a call that ends well were put
module _ {A : Type 0} where
  pub mapped_flushed : (written : Result (Unit {0}) MapFault) (flushed : Result (Unit {0}) SinkFault)
      → ended_status (mapped written flushed) ≡ statuses.Done → OnOk flushed A → A
  mapped_flushed (Ok written) (Ok done) e a = a
  mapped_flushed (Ok written) (Err fault) e a = absurd (never_done troubles.Output e)
  mapped_flushed (Err fault) flushed e a = absurd (never_done (map_trouble fault) e)

  pub printed_flushed : (found : Result (Unit {0}) Trouble) (put flushed : Result (Unit {0}) SinkFault)
      → ended_status (printed found put flushed) ≡ statuses.Done → OnOk flushed A → A
  printed_flushed found (Err fault) flushed e a = absurd (never_done troubles.Output e)
  printed_flushed found (Ok done) (Err fault) e a = absurd (never_done troubles.Output e)
  printed_flushed found (Ok done) (Ok end) e a = a
