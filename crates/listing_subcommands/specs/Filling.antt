-- What the parts of a load do: how a store is filled, and what is printed.
use Rattle.std.specs.Prelude.{◌≡◌, ℕ, Result, Ok, Err}
use Rattle.store_model.specs.declared.refusal.Refusal.TheVariants.{Full}
use Rattle.store_model.specs.Trees.{Tree, empty_tree}
use Rattle.store_model.specs.Commands.{reply_text}
use Rattle.store_model.specs.Commands.Reply.{Refused}
use Rattle.dump_streams.specs.declared.listed_pairs.ListedPairs.{ListedPairs}
use Rattle.disk_model.specs.DiskState.{DiskState, IsObservable}
use Rattle.script_lines.specs.declared.fault.SinkFault.{SinkFault}
use Rattle.script_lines.specs.SourceState.{SourceState}
use Rattle.script_lines.specs.SinkState.{SinkState, IsPut}
use Rattle.image_check.specs.declared.fault.ApplyFault.{ApplyFault}
use Rattle.staged_tree.specs.declared.load.LoadAnswer.{LoadAnswer}
use Rattle.staged_tree.specs.declared.load.LoadAnswer.TheVariants as answers
use Rattle.store_core.specs.Loads.{Loads}
use Rattle.store_core.specs.StoreState.{StoreState}
use Rattle.image_subcommands.specs.declared.status.Status.{Status}
use Rattle.image_subcommands.specs.declared.status.Status.TheVariants as statuses
use Rattle.image_subcommands.specs.Endings.{apply_status}
use Rattle.listing_subcommands.specs.Listings.{ReadsListing, HoldsTree}

-- an empty store is loaded with the tree whose pairs are held
abbrev pub LoadsListed : {D : Type 0} → (D → DiskState) → ListedPairs → StoreState D → StoreState D
    → Result LoadAnswer ApplyFault → Type 0
LoadsListed disk_of listed old new result = (t : Tree) → HoldsTree old.params listed t
    → Loads disk_of t old new result

-- what a load comes to that was answered so: a fault ends the call
abbrev pub filled_by : Result LoadAnswer ApplyFault → Result LoadAnswer Status
filled_by (Ok answer) = Ok answer
filled_by (Err fault) = Err (apply_status fault)

module _ {D R : Type 0} (disk_of : D → DiskState) (source_of : R → SourceState) (store store_new : StoreState D)
    (source source_new : R) where
  -- a store that holds a tree is spared, and nothing is read
  pub record SparesStore : Type 0 where
    pub holds : IsObservable (disk_of store.disk) → store.tree ≡ empty_tree → ⊥
    pub store_same : store_new ≡ store
    pub source_same : source_new ≡ source

  -- the reading of the listing for an empty store came to nothing, and the store is as it was
  pub record EndsReading (status : Status) : Type 0 where
    pub empty : store.tree ≡ empty_tree
    pub store_same : store_new ≡ store
    pub reads : ReadsListing source_of store.params source source_new (Err status)

  -- a listing was read to its end for an empty store, which was then loaded with its tree
  pub record LoadsRead (result : Result LoadAnswer ApplyFault) : Type 0 where
    pub empty : store.tree ≡ empty_tree
    pub listed : ListedPairs
    pub reads : ReadsListing source_of store.params source source_new (Ok listed)
    pub loads : LoadsListed disk_of listed store store_new result

-- A store is filled from a listing, or the call ends before.
pub data FillsStore {D R : Type 0} (disk_of : D → DiskState) (source_of : R → SourceState)
    (store store_new : StoreState D) (source source_new : R) (result : Result LoadAnswer Status) : Type 0 where
  Spares : result ≡ Err statuses.NotEmpty → SparesStore disk_of source_of store store_new source source_new
      → FillsStore disk_of source_of store store_new source source_new result
  Stops : (status : Status) → result ≡ Err status
      → EndsReading disk_of source_of store store_new source source_new status
      → FillsStore disk_of source_of store store_new source source_new result
  Fills : (loaded : Result LoadAnswer ApplyFault) → result ≡ filled_by loaded
      → LoadsRead disk_of source_of store store_new source source_new loaded
      → FillsStore disk_of source_of store store_new source source_new result

-- ---- what is printed

-- how a call ends whose line on a tree that is too large was put out so
abbrev pub full_status : Result (Unit {0}) SinkFault → Status
full_status (Ok value) = statuses.TooFull
full_status (Err fault) = statuses.SinkFault

module _ {W : Type 0} (sink_of : W → SinkState) where
  -- the line on a tree that is too large is put out, or the sink fails
  pub record PutsFull (need slots : ℕ) (old new : W) (status : Status) : Type 0 where
    pub put : Result (Unit {0}) SinkFault
    pub puts : IsPut (sink_of old) (sink_of new) (reply_text (Refused (Full need slots))) put
    pub status_is : status ≡ full_status put

  -- what is printed of a store that was filled so, and how the call ends
  abbrev pub PrintsFilled : Result LoadAnswer Status → W → W → Status → Type 0
  PrintsFilled (Ok answers.Done) old new status = (status ≡ statuses.Done) × (new ≡ old)
  PrintsFilled (Ok (answers.Full need slots)) old new status = PutsFull need slots old new status
  PrintsFilled (Err fault) old new status = (status ≡ fault) × (new ≡ old)
