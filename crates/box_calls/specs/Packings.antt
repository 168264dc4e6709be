-- What `pack` promises.
use Rattle.std.specs.Prelude.{◌≡◌, ℕ, Bool, true, false, List, [], codes, Result, Ok, Err, OnOk, IfErr}
use Rattle.script_lines.specs.SinkState.{SinkState, IsPut}
use Rattle.script_lines.specs.declared.fault.SinkFault.{SinkFault}
use Rattle.dump_streams.specs.Draining.{WritesUntil}
use Rattle.dump_streams.specs.Gathered.{Gathered, gathered_state}
use Rattle.dump_streams.specs.declared.draining.DrainFault.{DrainFault}
use Rattle.dump_streams.specs.declared.draining.DrainFault.TheVariants as drains
use Rattle.dump_streams.specs.declared.fault.StreamFault.{StreamFault}
use Rattle.dump_streams.specs.declared.fault.StreamFault.TheVariants as streams
use Rattle.dump_streams.specs.declared.taker.TakerFault.TheVariants as takers
use Rattle.host_folders.specs.FolderState.{FolderState}
use Rattle.host_folders.specs.Packed.{CameOf, IsPacked, EndsBy}
use Rattle.host_folders.specs.Packing.{PacksFolder}
use Rattle.host_folders.specs.declared.found.Found.{Found}
use Rattle.host_folders.specs.declared.stream.FolderStream.{FolderStream}
use Rattle.box_words.specs.declared.status.Status.{Status}
use Rattle.box_calls.specs.declared.trouble.Trouble.{Trouble}
use Rattle.box_calls.specs.declared.trouble.Trouble.TheVariants as troubles
use Rattle.box_calls.specs.Checks.{printed}
use Rattle.box_calls.specs.Endings.{Ends}
use Rattle.box_calls.specs.Makings.{EndsMade}

-- the trouble of a folder whose steps ended so
abbrev pub stream_trouble : StreamFault → Trouble
stream_trouble streams.NoMemory = troubles.NoMemory
stream_trouble streams.Unreadable = troubles.Host
stream_trouble streams.NoDump = troubles.Moving
stream_trouble streams.TooLong = troubles.TooMuch

-- what the writing of a listing came to that ended so
abbrev pub packed_trouble : Result (Unit {0}) DrainFault → Result (Unit {0}) Trouble
packed_trouble (Ok done) = Ok tt
packed_trouble (Err (drains.Stream fault)) = Err (stream_trouble fault)
packed_trouble (Err (drains.Taker takers.NoMemory)) = Err troubles.NoMemory
packed_trouble (Err (drains.Taker takers.Failed)) = Err troubles.Output

-- the line which says that a listing is not whole
abbrev pub broken_off : List ℕ
broken_off = codes "broken off\n"

-- what stands behind the lines of a listing that was written so
abbrev pub ending_of : Result (Unit {0}) DrainFault → List ℕ
ending_of (Ok done) = []
ending_of (Err fault) = broken_off

-- bytes are put, and then those that are held
pub record PutsLast (text : List ℕ) (old new : SinkState) (put flushed : Result (Unit {0}) SinkFault) : Type 0 where
  pub between : SinkState
  pub puts : IsPut old between text put
  pub flushes : IsPut between new [] flushed

-- the line which says that a listing is not whole is put, or a call of the sink fails
pub record BreaksOff (old new : SinkState) : Type 0 where
  pub put : Result (Unit {0}) SinkFault
  pub flushed : Result (Unit {0}) SinkFault
  pub last : PutsLast broken_off old new put flushed

module _ {F W : Type 0} (state_of : F → FolderState) (sink_of : W → SinkState) where
  -- The listing of a folder goes to the first sink, and behind a fault the line which says that it is not whole; the
  -- second gets what is said. So much in the folder was left out.
  pub record PacksListing (left_out : ℕ) (found : List Found) (folder : F) (stream : FolderStream F)
      (old new : Gathered W) (say say_new : SinkState) (status : Status) : Type 0 where
    pub written : Result (Unit {0}) DrainFault
    pub put : Result (Unit {0}) SinkFault
    pub flushed : Result (Unit {0}) SinkFault
    -- the first sink once the lines were written
    pub between : Gathered W
    pub packs : OnOk written (PacksFolder state_of (gathered_state sink_of) folder stream.folder found old between)
    pub stops : IfErr written (WritesUntil (CameOf state_of) (IsPacked state_of) (EndsBy state_of)
        (gathered_state sink_of) stream old between)
    pub last : PutsLast (ending_of written) (gathered_state sink_of between) (gathered_state sink_of new) put flushed
    pub ends : EndsMade false (printed (packed_trouble written) put flushed) left_out status say say_new

  -- nothing of a folder is listed, since it met obstacles
  pub record PacksNothing (folder : F) (stream : FolderStream F) (old new : Gathered W) (say say_new : SinkState)
      (status : Status) : Type 0 where
    pub same : stream.folder ≡ folder
    pub breaks_off : BreaksOff (gathered_state sink_of old) (gathered_state sink_of new)
    pub ends : Ends (Err troubles.Obstacles) status say say_new

abbrev pub Packs : {F W : Type 0} → Bool → (F → FolderState) → (W → SinkState) → ℕ → List Found → F → FolderStream F
    → Gathered W → Gathered W → SinkState → SinkState → Status → Type 0
Packs true state_of sink_of left_out found folder stream old new say say_new status =
    PacksNothing state_of sink_of folder stream old new say say_new status
Packs false state_of sink_of left_out found folder stream old new say say_new status =
    PacksListing state_of sink_of left_out found folder stream old new say say_new status
