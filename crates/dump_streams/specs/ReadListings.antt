-- What leading a listing into a taker does.
use Rattle.std.specs.Prelude.{List, [], Result, MatchResult, ⊤}
use Rattle.store_model.specs.Trees.{Tree, empty_tree}
use Rattle.script_lines.specs.SourceState.{SourceState, IsObservable}
use Rattle.dump_streams.specs.Dumps.{DumpStep, dump, IsListing}
use Rattle.dump_streams.specs.Listings.{CameOf, IsTreeOf}
use Rattle.dump_streams.specs.declared.listing.ListingStream.{ListingStream}
use Rattle.dump_streams.specs.declared.fault.StreamFault.TheVariants as streams
use Rattle.dump_streams.specs.declared.draining.DrainFault.{DrainFault}
use Rattle.dump_streams.specs.declared.draining.DrainFault.TheVariants as drains

-- the source of a stream had a listing of the tree, under the stream's version, before its first byte was taken
pub record HasListing {R : Type 0} (source_of : R → SourceState) (stream : ListingStream R) (t : Tree) : Type 0 where
  pub observable : IsObservable (source_of stream.first.value)
  pub under : IsTreeOf stream.reader.version t
  pub listing : IsListing t (source_of stream.first.value).left

-- the fault is none of the listing, nor of memory that its stream wants
abbrev pub IsFromOutside : DrainFault → Type 0
IsFromOutside (drains.Stream streams.NoDump) = ⊥
IsFromOutside (drains.Stream streams.NoMemory) = ⊥
IsFromOutside (drains.Stream _) = ⊤
IsFromOutside (drains.Taker fault) = ⊤

-- Where the source has a listing of a tree, just the steps of its dump are taken.
abbrev pub TakesListing : {R T : Type 0} → (R → SourceState) → (T → T → List DumpStep → Type 0) → ListingStream R
    → T → T → Result (Unit {0}) DrainFault → Type 0
TakesListing source_of took stream first taker result =
    (t : Tree) → CameOf source_of stream empty_tree → took first first [] → HasListing source_of stream t
    → MatchResult result (λ done. took first taker (dump t)) IsFromOutside
