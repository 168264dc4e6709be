-- What one more pair of a store gives a stream.
use Rattle.std.specs.Prelude.{◌≡◌, ℕ, ◌+◌, ◌≤◌, ◌<◌, List, [], ◌∷◌, ◌++◌, length, Option, Some, None, Result, Ok, Err}
use Rattle.store_model.specs.Parameters.{Parameters}
use Rattle.store_model.specs.Trees.{Tree}
use Rattle.store_model.specs.Pairs.{Pair, pairs}
use Rattle.disk_model.specs.DiskState.{DiskState, IsObservable}
use Rattle.tree_pairs.specs.TreeCalls.{pairs_limit}
use Rattle.dump_streams.specs.Dumps.{DumpStep, after_step}
use Rattle.dump_streams.specs.declared.steps.PairSteps.{PairSteps}
use Rattle.dump_streams.specs.Taking.{HasGiven, HasTaken}
use Rattle.dump_streams.specs.Streams.{Extends}
use Rattle.dump_streams.specs.declared.fault.StreamFault.{StreamFault}
use Rattle.store_core.specs.Walks.{StandsAfter}
use Rattle.store_core.specs.declared.walks.PairsWalk.{PairsWalk}
use Rattle.store_stream.specs.declared.stream.StoreStream.{StoreStream}
use Rattle.store_stream.specs.declared.stream.Turn.{Turn}
use Rattle.store_stream.specs.declared.stream.Turn.TheVariants as turns
use Rattle.store_stream.specs.StoreStreams.{CameBy, IsWhole, EndsBy}

-- A pair of the tree u came that gave no step yet.
pub record StandsWith (steps : PairSteps) (walk : PairsWalk) (t : Tree) (count : ℕ) (pair : Pair) (u : Tree)
    (p : Parameters) : Type 0 where
  pub passed : List Pair
  pub rest : List Pair
  pub many : count ≤ length passed
  pub walk_is : StandsAfter u p (passed ++ pair ∷ []) walk
  pub taken : HasTaken steps u p passed t
  pub pairs_are : pairs u p ≡ passed ++ pair ∷ rest

module _ {D : Type 0} (disk_of : D → DiskState) where
  -- The steps that came so far are the dump of t, and one more pair came.
  pub record CameWith (stream : StoreStream D) (t : Tree) (count : ℕ) (pair : Pair) : Type 0 where
    pub going : stream.fault ≡ None
    pub few : length (pairs stream.store.tree stream.store.params) < pairs_limit
    pub given : HasGiven stream.steps t stream.store.params
    pub stands : IsObservable (disk_of stream.store.disk)
        → StandsWith stream.steps stream.walk t count pair stream.store.tree stream.store.params

  -- The steps that came so far are the dump of t, and no more pair comes.
  pub record CameToEnd (stream : StoreStream D) (t : Tree) : Type 0 where
    pub going : stream.fault ≡ None
    pub given : HasGiven stream.steps t stream.store.params
    pub all : IsObservable (disk_of stream.store.disk)
        → HasTaken stream.steps stream.store.tree stream.store.params (pairs stream.store.tree stream.store.params) t

  abbrev pub Pulled : StoreStream D → Tree → ℕ → Result (Option Pair) StreamFault → Type 0
  Pulled stream t count (Ok (Some pair)) = CameWith stream t count pair
  Pulled stream t count (Ok None) = CameToEnd stream t
  Pulled stream t count (Err fault) = EndsBy disk_of stream t fault

  -- a step was given that goes on with the dump of t
  pub record CameOn (stream : StoreStream D) (t : Tree) (s : DumpStep) : Type 0 where
    pub came : CameBy disk_of stream (after_step t s) 0
    pub extends : Extends t s

  abbrev pub Turned : StoreStream D → Tree → ℕ → DumpStep → Result Turn StreamFault → Type 0
  Turned stream t count s (Ok turns.Step) = CameOn stream t s
  Turned stream t count s (Ok turns.More) = CameBy disk_of stream t (count + 1)
  Turned stream t count s (Ok turns.End) = IsWhole disk_of stream t
  Turned stream t count s (Err fault) = EndsBy disk_of stream t fault
