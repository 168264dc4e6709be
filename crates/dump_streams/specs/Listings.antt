-- What a stream of a listing gives.
use Rattle.std.specs.Prelude.{◌≡◌, ℕ, ◌+◌, ◌≤◌, Bool, List, map, length, Ok}
use Rattle.std.specs.Bool.{OnTrue, OnFalse}
use Rattle.store_model.specs.declared.version.Version.{Version}
use Rattle.store_model.specs.Parameters.{Parameters}
use Rattle.store_model.specs.Pages.{IsTreeUnder}
use Rattle.store_model.specs.Trees.{Tree}
use Rattle.store_model.specs.Scripts.{reading, script_limit}
use Rattle.script_lines.specs.SourceState.{SourceState, IsObservable}
use Rattle.script_lines.specs.LineState.{LineState, Answers, unread}
use Rattle.dump_streams.specs.declared.reader.ListingReader.{ListingReader}
use Rattle.dump_streams.specs.Dumps.{DumpStep, command_of_step, after_step, dump, readings, IsListing}
use Rattle.dump_streams.specs.Reading.{HasRead, GoesOn, BreaksOff}
use Rattle.dump_streams.specs.declared.fault.StreamFault.{StreamFault}
use Rattle.dump_streams.specs.declared.fault.StreamFault.TheVariants as faults
use Rattle.dump_streams.specs.declared.listing.ListingStream.{ListingStream}
use Rattle.dump_streams.specs.SourceLines.{fresh_lines, IsReading, IsReadOut, StopsReading}

-- a tree that may stand under this version
abbrev pub IsTreeOf : Version → Tree → Type 0
IsTreeOf version t = (p : Parameters) → p.version ≡ version → IsTreeUnder t p

-- the lines that came ask for these steps of a dump
pub record AreSteps {R : Type 0} (source_of : R → SourceState) (first now : LineState R) (t : Tree) : Type 0 where
  pub texts : List (List ℕ)
  pub answers : Answers source_of first now texts
  pub texts_are : map reading texts ≡ readings (dump t)

module _ {R : Type 0} (source_of : R → SourceState) (stream : ListingStream R) where
  -- what the source had is a listing of no tree, if it tells its bytes
  abbrev pub IsNoListing : Type 0
  IsNoListing = IsObservable (source_of stream.first.value) → (t : Tree) → IsTreeOf stream.reader.version t
      → IsListing t (source_of stream.first.value).left → ⊥

  -- The steps that came so far of a source are the dump of the tree.
  pub record CameOf (t : Tree) : Type 0 where
    pub reading : IsReading source_of stream.first.value stream.lines
    pub read : (p : Parameters) → p.version ≡ stream.reader.version → HasRead stream.reader t p
    pub count_is : stream.count ≡ length (dump t)
    -- each line took a byte
    pub few : stream.count + unread stream.lines ≤ script_limit
    pub steps : IsObservable (source_of stream.first.value)
        → AreSteps source_of (fresh_lines stream.first.value) stream.lines t

  -- what the source had is a listing of the tree, if it tells its bytes, and was read to its end
  pub record IsListed (t : Tree) : Type 0 where
    pub read_out : IsReadOut source_of stream.first.value stream.lines
    pub under : IsTreeOf stream.reader.version t
    pub listing : IsObservable (source_of stream.first.value) → IsListing t (source_of stream.first.value).left
    pub count_is : stream.count ≡ length (dump t)

  -- a line came that no dump goes on with which begins with that of the tree
  pub record IsRefused (t : Tree) : Type 0 where
    pub reading : IsReading source_of stream.first.value stream.lines
    pub none : IsNoListing
    pub count_is : stream.count ≡ length (dump t) + 1

  -- Why the stream of a listing ends after the steps of the dump of a tree. Memory never runs out.
  abbrev pub EndsBy : Tree → StreamFault → Type 0
  EndsBy t faults.NoDump = IsRefused t
  EndsBy t fault = StopsReading source_of stream.first.value stream.lines fault

-- the listing is the same one, of the same version
pub record IsOfSame {R : Type 0} (start now : ListingStream R) : Type 0 where
  pub first : now.first ≡ start.first
  pub version : now.reader.version ≡ start.reader.version

-- ---- on the way

-- The text of a line comes behind the dump of a tree. It is taken where it asks for a step with which some tree's dump
-- begins, and just there.
pub record TakesText (old new : ListingReader) (text : List ℕ) (s : DumpStep) (taken : Bool) : Type 0 where
  pub step : OnTrue taken (reading text ≡ Ok (command_of_step s))
  pub read : (t : Tree) (p : Parameters) → HasRead old t p → OnTrue taken (HasRead new (after_step t s) p)
  pub goes_on : (t : Tree) (p : Parameters) → HasRead old t p → OnTrue taken (GoesOn t s p)
  pub refused : (t : Tree) (p : Parameters) → HasRead old t p
      → OnFalse taken ((other : DumpStep) → reading text ≡ Ok (command_of_step other) → BreaksOff t other p)
  pub version : new.version ≡ old.version
