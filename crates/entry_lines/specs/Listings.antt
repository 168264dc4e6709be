-- What is listed of the tree of a stream.
use Rattle.std.specs.Prelude.{◌≡◌, ◌⊎◌, ◌++◌, Result, Ok, Err}
use Rattle.store_model.specs.Paths.{Path}
use Rattle.store_model.specs.Trees.{Tree, IsTree, empty_tree, node_at}
use Rattle.script_lines.specs.SinkState.{SinkState, IsObservable}
use Rattle.dump_streams.specs.Draining.{IsTooLong}
use Rattle.dump_streams.specs.declared.fault.StreamFault.{StreamFault}
use Rattle.dump_streams.specs.declared.draining.DrainFault.{DrainFault}
use Rattle.dump_streams.specs.declared.draining.DrainFault.TheVariants as drains
use Rattle.dump_views.specs.declared.content.Standing.{Standing}
use Rattle.dump_views.specs.Contents.{standing_of}
use Rattle.host_builder.specs.Builders.{faults_after}
use Rattle.entry_lines.specs.declared.form.ListForm.{ListForm}
use Rattle.entry_lines.specs.Lines.{list_text}

-- The sink got just the lines of what is listed of a tree at a path, and this is what stands there.
pub record IsListed (form : ListForm) (top : Path) (old new : SinkState) (standing : Standing) (t : Tree)
    : Type 0 where
  pub standing_is : standing ≡ standing_of (node_at t top)
  pub written : IsObservable old → new.written ≡ old.written ++ list_text form top t

module _ {S : Type 0} (came whole : S → Tree → Type 0) (fails : S → Tree → StreamFault → Type 0) where
  -- the stream told that its dump is whole, and what is listed of its tree was written
  pub record ListsWhole (stream : S) (form : ListForm) (top : Path) (old new : SinkState) (standing : Standing)
      : Type 0 where
    pub tree : Tree
    pub whole_is : whole stream tree
    pub observable : new.is_observable ≡ old.is_observable
    pub faults : new.faults ≡ old.faults
    pub listed : IsTree tree → IsListed form top old new standing tree

  -- the stream told a fault after the dump of a tree, or gave too many steps, and no call of the sink failed
  pub record ListsFront (stream : S) (old new : SinkState) (fault : StreamFault) : Type 0 where
    pub tree : Tree
    pub why : fails stream tree fault ⊎ IsTooLong came stream tree fault
    pub faults : new.faults ≡ old.faults

  abbrev pub Lists : S → ListForm → Path → SinkState → SinkState → Result Standing DrainFault → Type 0
  Lists stream form top old new (Ok standing) = ListsWhole stream form top old new standing
  Lists stream form top old new (Err (drains.Stream fault)) = ListsFront stream old new fault
  Lists stream form top old new (Err (drains.Taker fault)) =
      new.faults ≡ faults_after {T = Unit {0}} old.faults (Err fault)

  -- What a stream has at a path from which nothing came is listed.
  abbrev pub ListsStream : S → S → ListForm → Path → SinkState → SinkState → Result Standing DrainFault → Type 0
  ListsStream first stream form top old new result = came first empty_tree → Lists stream form top old new result
