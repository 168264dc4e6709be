-- What reading a listing does.
use Rattle.std.specs.Prelude.{◌≡◌, ◌⊎◌, List, [], ℕ, Result, Ok, Err, IfOk, IfErr}
use Rattle.store_model.specs.Parameters.{Parameters}
use Rattle.store_model.specs.Trees.{Tree}
use Rattle.store_model.specs.Pages.{IsTreeUnder}
use Rattle.dump_streams.specs.declared.listed_pairs.ListedPairs.{ListedPairs}
use Rattle.dump_streams.specs.Listed.{HoldsListed}
use Rattle.script_lines.specs.SourceState.{SourceState, IsObservable}
use Rattle.dump_streams.specs.declared.fault.StreamFault.{StreamFault}
use Rattle.dump_streams.specs.declared.fault.StreamFault.TheVariants as faults
use Rattle.image_subcommands.specs.declared.status.Status.{Status}
use Rattle.image_subcommands.specs.declared.status.Status.TheVariants as statuses
use Rattle.image_subcommands.specs.Limits.{KeepsLimit}
use Rattle.image_subcommands.specs.Statuses.{source_faults_by}
use Rattle.listing_subcommands.specs.LoadCall.{Lists, ListsNone}

-- the status of a call that a fault of its listing ended
abbrev pub stream_status : StreamFault → Status
stream_status faults.NoMemory = statuses.NoMemory
stream_status faults.Unreadable = statuses.SourceFault
stream_status faults.NoDump = statuses.BadListing
stream_status faults.TooLong = statuses.TooLong

-- how the reading of a listing ends, and which fault ends it
abbrev pub read_status : {T : Type 0} → Result T Status → Status
read_status (Ok value) = statuses.Done
read_status (Err status) = status

-- why no pairs come of a listing
abbrev pub IsReadFault : Status → Type 0
IsReadFault status = (status ≡ statuses.SourceFault) ⊎ (status ≡ statuses.TooLong) ⊎ (status ≡ statuses.NoMemory)
    ⊎ (status ≡ statuses.BadListing)

-- the pairs that are held are those of a tree, which may stand under the parameters
pub record HoldsTree (p : Parameters) (listed : ListedPairs) (t : Tree) : Type 0 where
  pub under : IsTreeUnder t p
  pub held : HoldsListed listed t p

-- the script is the listing of such a tree
pub record HoldsListing (p : Parameters) (script : List ℕ) (listed : ListedPairs) : Type 0 where
  pub tree : Tree
  pub lists : Lists tree p script
  pub held : HoldsListed listed tree p

-- All lines of a source are read, of which nothing was read before: its pairs are held then. Or they are no listing, or
-- a fault came before their end.
pub record ReadsListing {R : Type 0} (source_of : R → SourceState) (p : Parameters) (old new : R)
    (result : Result ListedPairs Status) : Type 0 where
  pub fault : IfErr result IsReadFault
  pub observable : (source_of new).is_observable ≡ (source_of old).is_observable
  pub faults : (source_of new).faults ≡ source_faults_by (read_status result) (source_of old).faults
  pub limit : IsObservable (source_of old) → KeepsLimit (read_status result) (source_of old) (source_of new)
  pub listed : IsObservable (source_of old) → IfOk result (HoldsListing p (source_of old).left)
  pub bad : IsObservable (source_of old) → read_status result ≡ statuses.BadListing
      → ((source_of new).left ≡ []) × ListsNone p (source_of old).left
  -- of a source that does not tell its bytes the pairs are those of some tree all the same
  pub some : IfOk result (λ listed. (t : Tree) × HoldsTree p listed t)
