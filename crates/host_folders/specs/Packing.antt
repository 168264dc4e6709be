-- What packing a folder writes.
use Rattle.std.specs.Prelude.{◌≡◌, ℕ, List}
use Rattle.store_model.specs.Paths.{Path}
use Rattle.store_model.specs.Trees.{Tree, IsTree}
use Rattle.script_lines.specs.SinkState.{SinkState}
use Rattle.dump_streams.specs.Draining.{HasWritten}
use Rattle.host_folders.specs.FolderState.{FolderState, IsObservable, whole_files}
use Rattle.host_folders.specs.Packed.{HasFiles, ReadsFiles}
use Rattle.host_folders.specs.declared.found.Found.{Found}

-- The listing of a tree is written. The tree has just the entries that were found, its files have the bytes that the
-- folder told of them from one moment to a later one, up to their ends, and its links the targets. No call failed.
pub record PacksFolder {F W : Type 0} (state_of : F → FolderState) (sink_of : W → SinkState) (folder now : F)
    (found : List Found) (old new : W) : Type 0 where
  pub tree : Tree
  pub is_tree : IsTree tree
  pub files : List (Path × List ℕ)
  pub links : List (Path × List ℕ)
  pub entries : HasFiles found files links tree
  pub faults : (state_of now).faults ≡ (state_of folder).faults
  pub told : IsObservable (state_of folder)
      → ReadsFiles (state_of folder) (state_of now) (whole_files files) links
  pub written : HasWritten sink_of old new tree
