-- The tree that a folder of the host tells, and why it told none.
use Rattle.std.specs.Prelude.{◌≡◌, ℕ, List, Option, Some, None}
use Rattle.store_base.specs.Counts.{raised}
use Rattle.store_model.specs.declared.version.Version.TheVariants.{Two}
use Rattle.store_model.specs.Parameters.{Parameters}
use Rattle.store_model.specs.Paths.{Path, root}
use Rattle.store_model.specs.Trees.{Tree, Attributes, IsTree}
use Rattle.dump_streams.specs.Dumps.{DumpStep}
use Rattle.dump_streams.specs.Reading.{BreaksOff}
use Rattle.dump_streams.specs.declared.fault.StreamFault.{StreamFault}
use Rattle.dump_streams.specs.declared.fault.StreamFault.TheVariants as streams
use Rattle.host_folders.specs.FolderState.{FolderState, IsObservable, whole_files}
use Rattle.host_folders.specs.Packed.{HasFiles, ReadsFiles, AsksFor}
use Rattle.host_folders.specs.declared.found.Found.{Found}
use Rattle.image_differences.specs.declared.folders.FolderReadFault.{FolderReadFault}
use Rattle.image_differences.specs.declared.folders.FolderReadFault.TheVariants as faults

-- From one moment to a later one the folder told what its files hold in which these entries were found, and where its
-- links lead: they are this tree, and no call failed.
pub record ReadsTree (old new : FolderState) (found : List Found) (t : Tree) : Type 0 where
  pub is_tree : IsTree t
  pub files : List (Path × List ℕ)
  pub links : List (Path × List ℕ)
  pub entries : HasFiles found files links t
  pub faults : new.faults ≡ old.faults
  pub told : IsObservable old → ReadsFiles old new (whole_files files) links

-- what the folder tells at this path asks for a step with which no dump goes on
pub record IsNoEntry (path : Path) : Type 0 where
  pub found : Found
  pub path_is : path ≡ found.path
  pub attributes : Attributes
  pub tree : Tree
  pub step : DumpStep
  pub asks : AsksFor found attributes step
  pub breaks_off : (p : Parameters) → p.version ≡ Two → BreaksOff tree step p

-- Why the folder told no tree: a call failed, and no other did; or it is as good as it was.
abbrev pub IsUntold : FolderState → FolderState → FolderReadFault → Type 0
IsUntold old new faults.Unreadable = new.faults ≡ raised old.faults
IsUntold old new faults.NoMemory = new.faults ≡ old.faults
IsUntold old new (faults.NoImage path) = (new.faults ≡ old.faults) × IsNoEntry path

-- ---- on the way

abbrev pub path_in : Option Path → Path
path_in None = root
path_in (Some path) = path

-- where its stream ended so, at the entry of this path
abbrev pub tree_fault : StreamFault → Option Path → FolderReadFault
tree_fault streams.NoMemory at = faults.NoMemory
tree_fault streams.Unreadable at = faults.Unreadable
tree_fault streams.NoDump at = faults.NoImage (path_in at)
tree_fault streams.TooLong at = faults.NoImage (path_in at)
