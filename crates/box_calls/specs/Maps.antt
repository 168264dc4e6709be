-- What `map` promises.
use Rattle.std.specs.Prelude.{[], Result, Ok, Err}
use Rattle.disk_model.specs.DiskState.{DiskState}
use Rattle.script_lines.specs.SinkState.{SinkState, IsPut}
use Rattle.script_lines.specs.declared.fault.SinkFault.{SinkFault}
use Rattle.slot_map.specs.declared.fault.MapFault.{MapFault}
use Rattle.slot_map.specs.declared.fault.MapFault.TheVariants as maps
use Rattle.slot_map.specs.MapCalls.{ReadsDisk, disk_answer, ShowsDisk}
use Rattle.box_words.specs.declared.status.Status.{Status}
use Rattle.box_calls.specs.declared.trouble.Trouble.{Trouble}
use Rattle.box_calls.specs.declared.trouble.Trouble.TheVariants as troubles
use Rattle.box_calls.specs.Endings.{Ends}

-- the trouble of a picture that was not written
abbrev pub map_trouble : MapFault → Trouble
map_trouble maps.NoImage = troubles.NotImage
map_trouble maps.Disk = troubles.Disk
map_trouble maps.Sink = troubles.Output

-- what a picture came to that was written so, and whose last bytes were put so
abbrev pub mapped : Result (Unit {0}) MapFault → Result (Unit {0}) SinkFault → Result (Unit {0}) Trouble
mapped (Ok written) (Ok done) = Ok tt
mapped (Ok written) (Err fault) = Err troubles.Output
mapped (Err fault) flushed = Err (map_trouble fault)

-- A picture of a disk's slots goes to the first sink; the second gets what is said. The disk is only read.
pub record Maps (disk disk_new : DiskState) (old new say say_new : SinkState) (status : Status) : Type 0 where
  pub written : Result (Unit {0}) MapFault
  pub flushed : Result (Unit {0}) SinkFault
  -- the first sink before its last bytes were put
  pub between : SinkState
  pub reads : ReadsDisk disk disk_new (disk_answer written)
  pub shows : ShowsDisk disk old between written
  pub put : IsPut between new [] flushed
  pub ends : Ends (mapped written flushed) status say say_new
