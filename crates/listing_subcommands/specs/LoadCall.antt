-- What `load` promises.
use Rattle.std.specs.Prelude.{◌≡◌, ◌⊎◌, ℕ, ◌+◌, ◌<◌, ◌≤◌, List, [], ◌++◌, length}
use Rattle.store_model.specs.declared.refusal.Refusal.TheVariants.{Full}
use Rattle.store_model.specs.Parameters.{Parameters}
use Rattle.store_model.specs.Trees.{Tree, empty_tree}
use Rattle.store_model.specs.Pages.{page_count}
use Rattle.store_model.specs.Images.{Represents}
use Rattle.store_model.specs.Commands.{reply_text}
use Rattle.store_model.specs.Commands.Reply.{Refused}
use Rattle.store_model.specs.Scripts.{script_limit}
use Rattle.store_model.specs.Pages.{IsTreeUnder}
use Rattle.dump_streams.specs.Dumps.{IsListing, ListsSome}
use Rattle.store_base.specs.Counts.{Rose}
use Rattle.disk_model.specs.DiskState.{DiskState}
use Rattle.disk_model.specs.DiskCalls.{LeavesOnly}
use Rattle.gate_journal.specs.Costs.{opening_writes, opening_syncs, commit_writes, commit_syncs, MadeAtMost}
use Rattle.gate_journal.specs.Disks.{IsUnwritten}
use Rattle.gate_journal.specs.Phases.{HasEmptyJournal}
use Rattle.gate_journal.specs.Places.{Made}
use Rattle.script_lines.specs.SourceState.{SourceState}
use Rattle.script_lines.specs.SourceState as sources
use Rattle.script_lines.specs.SinkState.{SinkState, AppendsPrefix}
use Rattle.script_lines.specs.SinkState as sinks
use Rattle.image_check.specs.Standing.{Stands}
use Rattle.store_core.specs.StoreCalls.{LeavesImage}
use Rattle.image_subcommands.specs.declared.outcome.Outcome.{Outcome}
use Rattle.image_subcommands.specs.declared.status.Status.{Status}
use Rattle.image_subcommands.specs.declared.status.Status.TheVariants as statuses
use Rattle.image_subcommands.specs.Limits.{KeepsLimit}
use Rattle.image_subcommands.specs.Outside.{Outside, IsIdle}
use Rattle.image_subcommands.specs.Statuses.{Subcommand as words, MayComeFirst, LoadsNothing, EndsBeforeListing}
use Rattle.image_subcommands.specs.Statuses.{IsDone, IsReadWhole, ComesExactly, done_of_work}
use Rattle.image_work.specs.Works.{Works}

-- a call may end so before the tree of its listing is judged
abbrev pub EndsBeforeTree : Status → Type 0
EndsBeforeTree status = (status ≡ statuses.SinkFault) ⊎ EndsBeforeListing status

-- the script is a listing of the tree
pub record Lists (t : Tree) (p : Parameters) (script : List ℕ) : Type 0 where
  pub under : IsTreeUnder t p
  pub listing : IsListing t script

-- the line on a tree that has more pages than there are slots
abbrev pub full_text : Tree → Parameters → List ℕ
full_text t p = reply_text (Refused (Full (page_count t p) p.slots))

-- The script is no listing of any tree.
abbrev pub ListsNone : Parameters → List ℕ → Type 0
ListsNone p script = ListsSome p script → ⊥

-- the tree of the listing has more pages than there are slots
pub record ListsTooMany (p : Parameters) (script : List ℕ) : Type 0 where
  pub tree : Tree
  pub lists : Lists tree p script
  pub more : p.slots < page_count tree p

-- What can be loaded: into the image of the empty tree a listing of a tree that has no more pages than there are slots.
pub record CanBeLoaded (u t : Tree) (p : Parameters) (script : List ℕ) : Type 0 where
  pub empty : u ≡ empty_tree
  pub lists : Lists t p script
  pub room : page_count t p ≤ p.slots

-- What is printed: nothing, but of a listing whose tree is too large the line that says so, or where the sink failed
-- a front of it.
pub record PrintsFull (p : Parameters) (script : List ℕ) (status : Status) (old new : SinkState) : Type 0 where
  pub line : status ≡ statuses.TooFull → (t : Tree) → Lists t p script → new.written ≡ old.written ++ full_text t p
  pub in_part : status ≡ statuses.SinkFault → (t : Tree) → Lists t p script
      → AppendsPrefix old.written new.written (full_text t p)

-- The tree of a listing is loaded into an image of the empty tree.
pub record LoadsTree (t : Tree) (p : Parameters) (status : Status) (old new : DiskState) : Type 0 where
  -- where it is done the disk reads the layout of the tree, and nothing is pending
  pub loaded : IsDone status → Stands new t p
  pub room : IsDone status → page_count t p ≤ p.slots
  -- an image that a crash at any moment of the call may leave is one that a crash before it might have left, or
  -- represents the empty tree or this one; and the disk reads such an image, after a fault too
  pub crash : LeavesOnly old new (λ image. old.crash_images image
      ⊎ (Represents image empty_tree p ⊎ Represents image t p))
  pub reads : Represents new.bytes empty_tree p ⊎ Represents new.bytes t p
  -- the slots that hold its pages are committed together, and the image was opened
  pub made : IsDone status → Made (opening_writes p.slots old.bytes + commit_writes (page_count t p))
      (opening_syncs p.slots old.bytes + commit_syncs (page_count t p)) old new
  pub limit : MadeAtMost (opening_writes p.slots old.bytes + commit_writes (page_count t p))
      (opening_syncs p.slots old.bytes + commit_syncs (page_count t p)) old new

-- Nothing is loaded: the image keeps its tree.
pub record KeepsTree (u : Tree) (p : Parameters) (status : Status) (old new : DiskState) : Type 0 where
  pub stands : (status ≡ statuses.DiskFault → ⊥) → (status ≡ statuses.NoMemory → ⊥) → Stands new u p
  pub crash : LeavesOnly old new (λ image. old.crash_images image ⊎ Represents image u p)
  pub reads : Represents new.bytes u p
  pub limit : MadeAtMost (opening_writes p.slots old.bytes) (opening_syncs p.slots old.bytes) old new
  -- one with an empty journal is not written
  pub quiet : HasEmptyJournal p.slots old.bytes → (status ≡ statuses.DiskFault → ⊥) → IsUnwritten old new

-- What the status tells of a load into an image that represents the tree u, of a listing that the source tells, and
-- what is printed.
pub record TellsLoad (u : Tree) (p : Parameters) (script : List ℕ) (status : Status) (disk disk_new : DiskState)
    (source source_new : SourceState) (sink sink_new : SinkState) : Type 0 where
  pub not_empty : ComesExactly statuses.NotEmpty (u ≡ empty_tree → ⊥) MayComeFirst status
  pub bad_listing : ComesExactly statuses.BadListing (ListsNone p script) EndsBeforeListing status
  pub too_full : ComesExactly statuses.TooFull (ListsTooMany p script) EndsBeforeTree status
  pub unprinted : status ≡ statuses.SinkFault → ListsTooMany p script
  pub done : IsDone status → (t : Tree) × CanBeLoaded u t p script
  pub printed : sinks.IsObservable sink → PrintsFull p script status sink sink_new
  -- it is done where the script can be loaded and is within its limit, no call failed and memory was there
  pub complete : (t : Tree) → CanBeLoaded u t p script → length script ≤ script_limit
      → (Rose disk.faults disk_new.faults → ⊥) → (Rose source.faults source_new.faults → ⊥)
      → IsDone status ⊎ (status ≡ statuses.NoMemory)

module _ {D R W : Type 0} (disk_of : D → DiskState) (source_of : R → SourceState) (sink_of : W → SinkState) where
  -- A load into an image that represents the tree u, of a listing that the source tells.
  pub record LoadsFrom (u : Tree) (p : Parameters) (script : List ℕ) (before : Outside D R W)
      (after : Outcome D R W) : Type 0 where
    pub tells : TellsLoad u p script after.status (disk_of before.disk) (disk_of after.disk) (source_of before.source)
        (source_of after.source) (sink_of before.sink) (sink_of after.sink)
    -- what stands of the image then: its tree, or that of the listing
    pub loads : u ≡ empty_tree → (t : Tree) → Lists t p script
        → LoadsTree t p after.status (disk_of before.disk) (disk_of after.disk)
    pub keeps : LoadsNothing after.status → KeepsTree u p after.status (disk_of before.disk) (disk_of after.disk)
    -- the image keeps its tree where nothing can be loaded, however the call ends
    pub keeps_refused : ((t : Tree) → CanBeLoaded u t p script → ⊥)
        → KeepsTree u p after.status (disk_of before.disk) (disk_of after.disk)
    pub no_memory : after.status ≡ statuses.NoMemory
        → Stands (disk_of after.disk) u p ⊎ LeavesImage (disk_of before.disk) (disk_of after.disk)

  -- What a load leaves, whatever the disk holds.
  pub record KeepsLoad (before : Outside D R W) (after : Outcome D R W) : Type 0 where
    pub done : after.done ≡ done_of_work after.status
    pub limit : sources.IsObservable (source_of before.source)
        → KeepsLimit after.status (source_of before.source) (source_of after.source)
    pub whole : sources.IsObservable (source_of before.source) → IsReadWhole after.status
        → (source_of after.source).left ≡ []
    -- where the image is not empty nothing is taken
    pub not_taken : after.status ≡ statuses.NotEmpty → IsIdle before after
    -- and nothing is printed but that a tree is too large
    pub silent : (after.status ≡ statuses.TooFull → ⊥) → (after.status ≡ statuses.SinkFault → ⊥)
        → after.sink ≡ before.sink

  abbrev pub LoadsAt : Tree → Parameters → Outside D R W → Outcome D R W → Type 0
  LoadsAt u p before after =
      sources.IsObservable (source_of before.source) → LoadsFrom u p (source_of before.source).left before after

  -- the image is opened, and the tree of the listing is loaded into it
  abbrev pub IsLoad : Outside D R W → Outcome D R W → Type 0
  IsLoad before after = Works disk_of words.Load KeepsLoad LoadsAt before after
