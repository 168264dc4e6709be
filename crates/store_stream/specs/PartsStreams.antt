-- What a stream of the parts of a store's tree at some paths gives.
use Rattle.std.specs.Prelude.{◌≡◌, ℕ, ◌+◌, ◌≤◌, ◌<◌, List, [], ◌∷◌, ◌++◌, length, take}
use Rattle.std.specs.Prelude.{Option, Some, None, Result, Ok, Err}
use Rattle.std.specs.List.{filter, AllByRecursion}
use Rattle.store_model.specs.Trees.{Tree}
use Rattle.store_model.specs.Pairs.{Pair, pairs}
use Rattle.store_model.specs.Pages.{IsTreeUnder}
use Rattle.disk_model.specs.DiskState.{DiskState, IsObservable}
use Rattle.tree_pairs.specs.TreeCalls.{pairs_limit}
use Rattle.dump_streams.specs.Dumps.{DumpStep, after_step, dump}
use Rattle.dump_streams.specs.Taking.{HasGiven, HasTaken}
use Rattle.dump_streams.specs.Streams.{Extends}
use Rattle.dump_streams.specs.declared.fault.StreamFault.{StreamFault}
use Rattle.store_core.specs.Walks.{StandsAfter}
use Rattle.store_stream.specs.declared.parts.PartsStream.{PartsStream}
use Rattle.store_stream.specs.declared.stream.Turn.{Turn}
use Rattle.store_stream.specs.declared.stream.Turn.TheVariants as turns
use Rattle.store_stream.specs.Parts.{parts_at}
use Rattle.store_stream.specs.PartKeys.{is_part, IsPast}
use Rattle.store_stream.specs.StoreStreams.{IsCause, ReadsStore}

-- ---- where it stands

module _ {D : Type 0} where
  -- the parts that a stream gives
  abbrev pub parts_of : PartsStream D → Tree
  parts_of stream = parts_at stream.stream.store.tree stream.parts.paths.now

  abbrev pub parts_pairs : PartsStream D → List Pair
  parts_pairs stream = pairs (parts_of stream) stream.stream.store.params

  -- these first pairs of the parts came, and the steps that were given of them are the dump of t
  abbrev pub HasMade : PartsStream D → List Pair → Tree → Type 0
  HasMade stream came t = HasTaken stream.stream.steps (parts_of stream) stream.stream.store.params came t

  -- Of the pairs of the tree so many were passed at least, those of the parts among them were taken, and the steps that
  -- were given of them are the dump of t. No pair that comes is one of the first paths.
  pub record StandsAmong (stream : PartsStream D) (t : Tree) (count : ℕ) : Type 0 where
    pub under : IsTreeUnder stream.stream.store.tree stream.stream.store.params
    pub passed : List Pair
    pub left : List Pair
    pub pairs_are : pairs stream.stream.store.tree stream.stream.store.params ≡ passed ++ left
    pub many : count ≤ length passed
    pub walk_is : StandsAfter stream.stream.store.tree stream.stream.store.params passed stream.stream.walk
    pub past : AllByRecursion (λ pair. AllByRecursion (IsPast pair.0) (take stream.parts.done stream.parts.paths.now))
        left
    pub made : HasMade stream (filter (is_part stream.parts.paths.now) passed) t

  -- The same, and one more pair of the tree came.
  pub record StandsBefore (stream : PartsStream D) (t : Tree) (count : ℕ) (pair : Pair) : Type 0 where
    pub under : IsTreeUnder stream.stream.store.tree stream.stream.store.params
    pub passed : List Pair
    pub left : List Pair
    pub pairs_are : pairs stream.stream.store.tree stream.stream.store.params ≡ passed ++ pair ∷ left
    pub many : count ≤ length passed
    pub walk_is : StandsAfter stream.stream.store.tree stream.stream.store.params (passed ++ pair ∷ [])
        stream.stream.walk
    pub past : AllByRecursion (IsPast pair.0) (take stream.parts.done stream.parts.paths.now)
    pub made : HasMade stream (filter (is_part stream.parts.paths.now) passed) t

-- ---- what it gives

module _ {D : Type 0} (disk_of : D → DiskState) where
  abbrev pub Tells : PartsStream D → Type 0
  Tells stream = IsObservable (disk_of stream.stream.store.disk)

  -- The steps that came so far are the dump of t, and over a disk that tells its bytes they are those of the parts
  -- among so many first pairs of the tree at least.
  pub record PartsBy (stream : PartsStream D) (t : Tree) (count : ℕ) : Type 0 where
    pub going : stream.stream.fault ≡ None
    pub few : length (pairs stream.stream.store.tree stream.stream.store.params) < pairs_limit
    pub given : HasGiven stream.stream.steps t stream.stream.store.params
    pub stands : Tells stream → StandsAmong stream t count

  -- The steps that came so far are the dump of t.
  abbrev pub PartsOf : PartsStream D → Tree → Type 0
  PartsOf stream t = PartsBy stream t 0

  -- The dump is whole, and over a disk that tells its bytes it is that of the parts of the store's tree.
  pub record IsWholeParts (stream : PartsStream D) (t : Tree) : Type 0 where
    pub going : stream.stream.fault ≡ None
    pub tree : Tells stream → t ≡ parts_of stream

  -- The stream ends by this fault after the dump of t, and over a disk that tells its bytes the dump of the parts
  -- begins so.
  pub record PartsEndBy (stream : PartsStream D) (t : Tree) (fault : StreamFault) : Type 0 where
    pub front : Tells stream → (rest : List DumpStep) × (dump (parts_of stream) ≡ dump t ++ rest)
    pub cause : IsCause disk_of stream.stream fault

  -- ---- what it leaves

  -- From one moment to a later one the store was read, and the paths stayed.
  pub record ReadsParts (start now : PartsStream D) : Type 0 where
    pub paths : now.parts.paths.now ≡ start.parts.paths.now
    pub store : ReadsStore disk_of start.stream now.stream

  -- ---- its inner calls

  -- one more pair of the tree came, and the steps so far are the dump of t
  pub record PartsWith (stream : PartsStream D) (t : Tree) (count : ℕ) (pair : Pair) : Type 0 where
    pub going : stream.stream.fault ≡ None
    pub few : length (pairs stream.stream.store.tree stream.stream.store.params) < pairs_limit
    pub given : HasGiven stream.stream.steps t stream.stream.store.params
    pub stands : Tells stream → StandsBefore stream t count pair

  -- no more pair of the parts comes
  pub record PartsToEnd (stream : PartsStream D) (t : Tree) : Type 0 where
    pub going : stream.stream.fault ≡ None
    pub all : Tells stream → HasMade stream (parts_pairs stream) t

  abbrev pub PartsPulled : PartsStream D → Tree → ℕ → Result (Option Pair) StreamFault → Type 0
  PartsPulled stream t count (Ok (Some pair)) = PartsWith stream t count pair
  PartsPulled stream t count (Ok None) = PartsToEnd stream t
  PartsPulled stream t count (Err fault) = PartsEndBy stream t fault

  -- a step was given that goes on with the dump of t
  pub record PartsOn (stream : PartsStream D) (t : Tree) (s : DumpStep) : Type 0 where
    pub came : PartsBy stream (after_step t s) 0
    pub extends : Extends t s

  abbrev pub PartsTurned : PartsStream D → Tree → ℕ → DumpStep → Result Turn StreamFault → Type 0
  PartsTurned stream t count s (Ok turns.Step) = PartsOn stream t s
  PartsTurned stream t count s (Ok turns.More) = PartsBy stream t (count + 1)
  PartsTurned stream t count s (Ok turns.End) = IsWholeParts stream t
  PartsTurned stream t count s (Err fault) = PartsEndBy stream t fault
