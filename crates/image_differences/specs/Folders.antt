-- How an image differs from a folder, and why that was not found out.
use Rattle.std.specs.Prelude.{List, Option, Result, Ok, Err, ⊤}
use Rattle.store_model.specs.Paths.{Path}
use Rattle.store_model.specs.Trees.{Tree}
use Rattle.disk_model.specs.DiskState.{DiskState}
use Rattle.dump_diff.specs.declared.differences.Differences.{Differences}
use Rattle.dump_diff.specs.declared.fault.CompareFault.{CompareFault}
use Rattle.dump_diff.specs.declared.fault.CompareFault.TheVariants as compares
use Rattle.host_builder.specs.declared.attribute.Wanted.{Wanted}
use Rattle.host_builder.specs.Views.{host_view}
use Rattle.host_folders.specs.FolderState.{FolderState}
use Rattle.host_folders.specs.declared.found.Found.{Found}
use Rattle.image_check.specs.declared.fault.ApplyFault.{ApplyFault}
use Rattle.image_reads.specs.declared.fault.ReadFault.TheVariants as reads
use Rattle.image_reads.specs.Faults.{store_fault}
use Rattle.image_differences.specs.declared.folders.FolderCompareFault.{FolderCompareFault}
use Rattle.image_differences.specs.declared.folders.FolderCompareFault.TheVariants as faults
use Rattle.image_differences.specs.declared.timing.Times.{Times}
use Rattle.image_differences.specs.Compared.{TellTrees, IsBlamed, IsStoreBlamed}
use Rattle.image_differences.specs.Timing.{wanted_in}
use Rattle.image_differences.specs.Told.{ReadsTree, IsUntold, tree_fault}

-- The folder told the tree of what was found in it, and these are the differences of what the host can have of this
-- tree and of that one, so far as it is wanted.
pub record TellsFolder (wanted : Wanted) (times : Times) (found : List Found) (old new : FolderState)
    (differences : Differences) (t : Tree) : Type 0 where
  pub told : Tree
  pub reads : ReadsTree old new found told
  pub trees : TellTrees (host_view (wanted_in times wanted t) t) (host_view (wanted_in times wanted t) told) differences

-- an image was not compared with a folder, for this reason
abbrev pub IsUncompared : DiskState → DiskState → FolderState → FolderState → FolderCompareFault → Type 0
IsUncompared disk disk' folder folder' (faults.Image fault) = IsBlamed disk disk' fault
IsUncompared disk disk' folder folder' (faults.Folder fault) = IsUntold folder folder' fault
IsUncompared disk disk' folder folder' faults.NoMemory = ⊤

-- ---- of an opened store

abbrev pub IsStoreUncompared : DiskState → DiskState → FolderState → FolderState → FolderCompareFault → Type 0
IsStoreUncompared disk disk' folder folder' (faults.Image fault) = IsStoreBlamed disk disk' fault
IsStoreUncompared disk disk' folder folder' (faults.Folder fault) = IsUntold folder folder' fault
IsStoreUncompared disk disk' folder folder' faults.NoMemory = ⊤

-- why they are not compared whose streams ended so, where the store told this fault, and the folder's stream stands at
-- this path
abbrev pub views_fault : CompareFault → Option ApplyFault → Option Path → FolderCompareFault
views_fault (compares.First cause) fault at = faults.Image (store_fault fault)
views_fault (compares.Second cause) fault at = faults.Folder (tree_fault cause at)
views_fault compares.TooLong fault at = faults.Image reads.Changed
views_fault (compares.NoMemory cause) fault at = faults.NoMemory

-- and what is found of them
abbrev pub views_found : Result Differences CompareFault → Option ApplyFault → Option Path
    → Result Differences FolderCompareFault
views_found (Ok found) fault at = Ok found
views_found (Err cause) fault at = Err (views_fault cause fault at)
