-- What a stream of a store gives, and what it leaves of the store.
use Rattle.std.specs.Prelude.{◌≡◌, ◌⊎◌, ℕ, ◌≤◌, ◌<◌, false, List, ◌++◌, length, Option, Some, None}
use Rattle.store_base.specs.Counts.{raised}
use Rattle.store_model.specs.Parameters.{Parameters}
use Rattle.store_model.specs.Trees.{Tree}
use Rattle.store_model.specs.Pairs.{Pair, pairs}
use Rattle.disk_model.specs.DiskState.{DiskState, IsObservable}
use Rattle.gate_journal.specs.Disks.{KeepsDisk}
use Rattle.gate_journal.specs.Places.{ReadsOnly}
use Rattle.tree_pairs.specs.TreeCalls.{pairs_limit}
use Rattle.dump_streams.specs.Dumps.{DumpStep, dump}
use Rattle.dump_streams.specs.declared.steps.PairSteps.{PairSteps}
use Rattle.dump_streams.specs.Taking.{HasGiven, HasTaken}
use Rattle.dump_streams.specs.declared.fault.StreamFault.{StreamFault}
use Rattle.dump_streams.specs.declared.fault.StreamFault.TheVariants as streams
use Rattle.image_check.specs.declared.fault.ApplyFault.{ApplyFault}
use Rattle.image_check.specs.declared.fault.ApplyFault.TheVariants as apply
use Rattle.store_core.specs.Walks.{StandsAfter}
use Rattle.store_core.specs.declared.walks.PairsWalk.{PairsWalk}
use Rattle.store_stream.specs.declared.stream.StoreStream.{StoreStream}

-- what a stream tells where its store tells this
abbrev pub stream_fault_of : ApplyFault → StreamFault
stream_fault_of apply.Disk = streams.Unreadable
stream_fault_of apply.NoMemory = streams.NoMemory
stream_fault_of apply.Stopped = streams.Unreadable

-- ---- what it gives

-- Of the pairs of the tree u so many came at least, the first of them, and the steps that were given of them are the
-- dump of t.
pub record StandsAt (steps : PairSteps) (walk : PairsWalk) (t : Tree) (count : ℕ) (u : Tree)
    (p : Parameters) : Type 0 where
  pub passed : List Pair
  pub many : count ≤ length passed
  pub walk_is : StandsAfter u p passed walk
  pub taken : HasTaken steps u p passed t

module _ {D : Type 0} (disk_of : D → DiskState) where
  -- The steps that came so far are the dump of t, and over a disk that tells its bytes they are those of so many first
  -- pairs of the store's tree at least.
  pub record CameBy (stream : StoreStream D) (t : Tree) (count : ℕ) : Type 0 where
    pub going : stream.fault ≡ None
    pub few : length (pairs stream.store.tree stream.store.params) < pairs_limit
    pub given : HasGiven stream.steps t stream.store.params
    pub stands : IsObservable (disk_of stream.store.disk)
        → StandsAt stream.steps stream.walk t count stream.store.tree stream.store.params

  -- The steps that came so far are the dump of t.
  abbrev pub CameOf : StoreStream D → Tree → Type 0
  CameOf stream t = CameBy stream t 0

  -- The dump is whole, and over a disk that tells its bytes it is that of the store's tree.
  pub record IsWhole (stream : StoreStream D) (t : Tree) : Type 0 where
    pub going : stream.fault ≡ None
    pub tree : IsObservable (disk_of stream.store.disk) → t ≡ stream.store.tree

  -- why a stream tells a fault: the store told one, or its disk gave pairs of no tree, which no disk does that tells
  -- its bytes
  abbrev pub IsCause : StoreStream D → StreamFault → Type 0
  IsCause stream streams.NoMemory = stream.fault ≡ Some apply.NoMemory
  IsCause stream streams.Unreadable = (stream.fault ≡ Some apply.Disk) ⊎ (stream.fault ≡ Some apply.Stopped)
  IsCause stream streams.NoDump = (stream.fault ≡ None) × (IsObservable (disk_of stream.store.disk) → ⊥)
  IsCause stream streams.TooLong = ⊥

  -- The stream ends by this fault after the dump of t, and over a disk that tells its bytes the dump of the store's
  -- tree begins so.
  pub record EndsBy (stream : StoreStream D) (t : Tree) (fault : StreamFault) : Type 0 where
    pub front : IsObservable (disk_of stream.store.disk)
        → (rest : List DumpStep) × (dump stream.store.tree ≡ dump t ++ rest)
    pub cause : IsCause stream fault

-- ---- what it leaves

-- the disk's count of failed calls after a fault of the store, if one came
abbrev pub faults_by : Option ApplyFault → ℕ → ℕ
faults_by None count = count
faults_by (Some apply.Disk) count = raised count
faults_by (Some apply.NoMemory) count = count
faults_by (Some apply.Stopped) count = count

-- From one moment to a later one the store was read: it has the tree and the parameters that it had, and of the calls
-- that were made one failed at most, which is told.
pub record ReadsStore {D : Type 0} (disk_of : D → DiskState) (start now : StoreStream D) : Type 0 where
  pub tree : now.store.tree ≡ start.store.tree
  pub params : now.store.params ≡ start.store.params
  pub kept : KeepsDisk (disk_of start.store.disk) (disk_of now.store.disk)
  pub reads : IsObservable (disk_of start.store.disk) → ReadsOnly (disk_of start.store.disk) (disk_of now.store.disk)
  pub faults : start.fault ≡ None
      → (disk_of now.store.disk).faults ≡ faults_by now.fault (disk_of start.store.disk).faults
  -- a store that is not stopped goes on but for a fault of the disk
  pub runs : start.fault ≡ None → start.store.is_stopped ≡ false → now.fault ≡ None → now.store.is_stopped ≡ false
  pub not_stopped : start.fault ≡ None → start.store.is_stopped ≡ false → now.fault ≡ Some apply.Stopped → ⊥
