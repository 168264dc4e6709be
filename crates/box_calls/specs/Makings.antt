-- What is taken of a tree, how calls end that make a folder, and what `unpack` promises.
use Rattle.std.specs.Prelude.{◌≡◌, ℕ, Bool, true, false, not, ◌==◌, if◌then◌else◌, Result, Ok, Err}
use Rattle.script_lines.specs.SinkState.{SinkState}
use Rattle.script_lines.specs.SourceState.{SourceState}
use Rattle.dump_streams.specs.Listings.{CameOf, IsListed, EndsBy, IsOfSame}
use Rattle.dump_streams.specs.declared.fault.StreamFault.{StreamFault}
use Rattle.dump_streams.specs.declared.fault.StreamFault.TheVariants as streams
use Rattle.dump_streams.specs.declared.listing.ListingStream.{ListingStream}
use Rattle.dump_streams.specs.declared.taker.TakerFault.{TakerFault}
use Rattle.dump_streams.specs.declared.taker.TakerFault.TheVariants as takers
use Rattle.host_builder.specs.declared.attribute.Wanted.{Wanted}
use Rattle.host_builder.specs.declared.attribute.Links.{Links}
use Rattle.host_builder.specs.declared.attribute.Links.TheVariants as links
use Rattle.host_builder.specs.declared.making.BuildFault.{BuildFault}
use Rattle.host_builder.specs.declared.making.BuildFault.TheVariants as builds
use Rattle.host_builder.specs.Builders.{BuilderState}
use Rattle.host_builder.specs.Views.{MakesView}
use Rattle.box_words.specs.declared.status.Status.{Status}
use Rattle.box_words.specs.declared.status.Status.TheVariants as statuses
use Rattle.box_words.specs.declared.options.Taken.{Taken}
use Rattle.box_words.specs.declared.options.Times.{Times}
use Rattle.box_words.specs.declared.options.Times.TheVariants as times
use Rattle.box_calls.specs.declared.trouble.Trouble.{Trouble}
use Rattle.box_calls.specs.declared.trouble.Trouble.TheVariants as troubles
use Rattle.box_calls.specs.Counted.{counted_state}
use Rattle.box_calls.specs.Endings.{Ends, SaysIf}

-- ---- what is taken of a tree

-- whether times are kept where the image has some
abbrev pub keeps_times : Times → Bool
keeps_times times.AsImage = true
keeps_times times.Kept = true
keeps_times times.LeftOut = false

-- what becomes of links
abbrev pub links_of : Bool → Links
links_of true = links.LeftOut
links_of false = links.Made

-- what the host has of a tree, as the options of the words say
abbrev pub wanted_of : Taken → Wanted
wanted_of taken = record {
  mode = not taken.no_mode;
  mtime = keeps_times taken.times;
  links = links_of taken.no_links;
  skips = taken.skip;
}

-- whether times are stored: only where the words ask for them
abbrev pub stores_times : Times → Bool
stores_times times.AsImage = false
stores_times times.Kept = true
stores_times times.LeftOut = false

-- what is stored of a folder, as the options of the words say
abbrev pub stored_of : Taken → Wanted
stored_of taken = record (wanted_of taken) { mtime = stores_times taken.times }

-- ---- the troubles

-- the trouble of a listing whose steps ended so
abbrev pub stream_trouble : StreamFault → Trouble
stream_trouble streams.NoMemory = troubles.NoMemory
stream_trouble streams.Unreadable = troubles.Input
stream_trouble streams.NoDump = troubles.NoListing
stream_trouble streams.TooLong = troubles.LongListing

-- the trouble of a builder
abbrev pub taker_trouble : TakerFault → Trouble
taker_trouble takers.NoMemory = troubles.NoMemory
taker_trouble takers.Failed = troubles.Host

-- what making the tree of a listing came to that ended so
abbrev pub build_trouble : Result (Unit {0}) BuildFault → Result (Unit {0}) Trouble
build_trouble (Ok done) = Ok tt
build_trouble (Err (builds.Stream fault)) = Err (stream_trouble fault)
build_trouble (Err (builds.Builder fault)) = Err (taker_trouble fault)
build_trouble (Err (builds.NoName path)) = Err troubles.Host

-- ---- how they end

-- how a call ends that made what was asked for, but for so many entries
abbrev pub left_out_status : ℕ → Status
left_out_status left_out = if left_out == 0 then statuses.Done else statuses.Differs

-- A call ends so that made what was asked for but for so many entries, or came to a trouble. Where it sums up, what was
-- made is said.
abbrev pub EndsMade : Bool → Result (Unit {0}) Trouble → ℕ → Status → SinkState → SinkState → Type 0
EndsMade sums_up (Ok done) left_out status old new = (status ≡ left_out_status left_out) × SaysIf sums_up old new
EndsMade sums_up (Err trouble) left_out status old new = Ends (Err trouble) status old new

-- The tree of a listing is made by a builder, as far as it is wanted; the sink gets what is said.
pub record Unpacks {R : Type 0} (source_of : R → SourceState) (sums_up : Bool) (wanted : Wanted)
    (first stream : ListingStream R) (old new : BuilderState) (say say_new : SinkState) (status : Status)
    : Type 0 where
  pub done : Result (Unit {0}) BuildFault
  -- how much of what was made could not be taken away again, and how many entries were left out
  pub stays : ℕ
  pub left_out : ℕ
  pub makes : MakesView (CameOf source_of) (IsListed source_of) (EndsBy source_of) first stream
      (counted_state old 0) (counted_state new left_out) wanted stays done
  pub same : IsOfSame first stream
  pub ends : EndsMade sums_up (build_trouble done) left_out status say say_new
