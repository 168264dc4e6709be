-- Why an image was not made, from what stream and writer told.
use Rattle.std.proofs.Common.{◌≡◌, Option, Ok, Err, inl, refl}
use Rattle.std.proofs.Common.{ap, ◌∙◌, unwrap_or}
use Rattle.store_model.specs.Parameters.{Parameters}
use Rattle.store_model.specs.Paths.{Path, root}
use Rattle.store_model.specs.Trees.{Tree}
use Rattle.dump_streams.specs.declared.fault.StreamFault.{StreamFault}
use Rattle.dump_streams.specs.declared.fault.StreamFault.TheVariants as streams
use Rattle.host_folders.specs.FolderState.{FolderState}
use Rattle.host_folders.specs.Packed.{EndsBy, attributes_there}
use Rattle.host_folders.specs.Steps.{path_at, path_of_found}
use Rattle.host_folders.specs.declared.stream.FolderStream.{FolderStream}
use Rattle.tree_writer.specs.declared.fault.TreeFault.{TreeFault}
use Rattle.tree_writer.specs.declared.fault.TreeFault.TheVariants as trees
use Rattle.tree_writer.specs.Faults.{tree_answer}
use Rattle.image_create.specs.Faults.{stream_fault, tree_fault, disk_answer}
use Rattle.image_create.specs.Leading.{IsStopped}

-- the path of a stream's entry; the root where there is none
abbrev path_in : Option Path → Path
path_in at = unwrap_or at root

-- why a stream that ended so stops
pub stream_stops : {F : Type 0} (state_of : F → FolderState) (stream : FolderStream F) (p : Parameters) (t : Tree)
    (cause : StreamFault) (at : Option Path) → at ≡ path_at stream.place stream.at stream.found.items
    → EndsBy state_of stream t cause → IsStopped state_of p stream (stream_fault cause at)
stream_stops state_of stream p t streams.NoMemory at at_is ends = ends
stream_stops state_of stream p t streams.Unreadable at at_is ends = ends
stream_stops state_of stream p t streams.NoDump at at_is ends =
    let asks = ends.0 in (
      ends.1,
      inl (record {
        found = asks.found;
        path_is = ap path_in (at_is ∙ ap path_of_found asks.here);
        attributes = attributes_there stream.place;
        tree = t;
        step = asks.step;
        asks = asks.asks;
        breaks_off = asks.breaks_off;
      }),
    )
stream_stops state_of stream p t streams.TooLong at at_is ends = absurd ends

-- no fault of a stream is the disk's
pub stream_answer : (T : Type 0) (cause : StreamFault) (at : Option Path)
    → disk_answer {T = T} (Err (stream_fault cause at)) ≡ Ok tt
stream_answer T streams.NoMemory at = refl
stream_answer T streams.Unreadable at = refl
stream_answer T streams.NoDump at = refl
stream_answer T streams.TooLong at = refl

-- a fault of a tree's writer is the disk's where it says so
pub tree_answers : (T U : Type 0) (cause : TreeFault) (path : Path)
    → disk_answer {T = T} (Err (tree_fault cause path)) ≡ tree_answer {T = U} (Err cause)
tree_answers T U trees.Disk path = refl
tree_answers T U trees.NoMemory path = refl
tree_answers T U (trees.Full need slots) path = refl
tree_answers T U trees.Changed path = refl
tree_answers T U trees.TooMany path = refl
