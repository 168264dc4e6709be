-- What leads from an image to what a folder holds, and why that was not found out.
use Rattle.std.specs.Prelude.{◌≡◌, true, false, List, Option, Result, Ok, Err, ⊤}
use Rattle.store_model.specs.Paths.{Path}
use Rattle.store_model.specs.Trees.{Tree}
use Rattle.disk_model.specs.DiskState.{DiskState, IsObservable}
use Rattle.dump_diff.specs.declared.losses.Losses.{Losses}
use Rattle.dump_diff.specs.declared.fault.CompareFault.{CompareFault}
use Rattle.dump_diff.specs.declared.fault.CompareFault.TheVariants as compares
use Rattle.synced_trees.specs.declared.plan.SyncPlan.{SyncPlan}
use Rattle.synced_trees.specs.declared.plan.PlanFault.{PlanFault}
use Rattle.synced_trees.specs.declared.plan.PlanFault.TheVariants as plans
use Rattle.synced_trees.specs.Syncing.{hides}
use Rattle.synced_trees.specs.Plans.{PlansFor}
use Rattle.host_folders.specs.FolderState.{FolderState}
use Rattle.host_folders.specs.declared.found.Found.{Found}
use Rattle.image_check.specs.declared.fault.ApplyFault.{ApplyFault}
use Rattle.image_reads.specs.declared.fault.ReadFault.TheVariants as reads
use Rattle.image_reads.specs.Faults.{store_fault}
use Rattle.image_differences.specs.declared.planning.FolderPlanFault.{FolderPlanFault}
use Rattle.image_differences.specs.declared.planning.FolderPlanFault.TheVariants as faults
use Rattle.image_differences.specs.Compared.{IsStoreBlamed}
use Rattle.image_differences.specs.Told.{ReadsTree, IsUntold, tree_fault}

-- The folder told the tree of what was found in it, and the plan leads from this tree to what was told.
pub record PlansFolder (losses : Losses) (found : List Found) (old new : FolderState) (t : Tree) (plan : SyncPlan)
    : Type 0 where
  pub told : Tree
  pub reads : ReadsTree old new found told
  pub plans : PlansFor losses t told plan

-- The folder told the tree of what was found in it, and at this path a directory stands with something below it where a
-- file was told, and nothing may be taken away.
pub record HidesFolder (losses : Losses) (found : List Found) (old new : FolderState) (t : Tree) (p : Path)
    : Type 0 where
  pub told : Tree
  pub reads : ReadsTree old new found told
  pub keeps : losses.paths ≡ false
  pub hidden : hides t told p ≡ true

-- why nothing is planned for a store on a disk, which has this tree
abbrev pub IsUnplannedFolder : Losses → DiskState → DiskState → List Found → FolderState → FolderState → Tree
    → FolderPlanFault → Type 0
IsUnplannedFolder losses disk disk' found folder folder' t (faults.Image fault) = IsStoreBlamed disk disk' fault
IsUnplannedFolder losses disk disk' found folder folder' t (faults.Folder fault) = IsUntold folder folder' fault
IsUnplannedFolder losses disk disk' found folder folder' t (faults.Hidden p) =
    IsObservable disk → HidesFolder losses found folder folder' t p
IsUnplannedFolder losses disk disk' found folder folder' t faults.NoMemory = ⊤

-- ---- on the way

-- why nothing is planned of two streams that ended so, where the store told this fault, and the folder's stream stands
-- at this path
abbrev pub unplanned_fault : CompareFault → Option ApplyFault → Option Path → FolderPlanFault
unplanned_fault (compares.First cause) fault at = faults.Image (store_fault fault)
unplanned_fault (compares.Second cause) fault at = faults.Folder (tree_fault cause at)
unplanned_fault compares.TooLong fault at = faults.Image reads.Changed
unplanned_fault (compares.NoMemory cause) fault at = faults.NoMemory

abbrev pub plan_fault : PlanFault → Option ApplyFault → Option Path → FolderPlanFault
plan_fault (plans.Compare cause) fault at = unplanned_fault cause fault at
plan_fault (plans.Hidden p) fault at = faults.Hidden p

abbrev pub planned_of : Result SyncPlan PlanFault → Option ApplyFault → Option Path → Result SyncPlan FolderPlanFault
planned_of (Ok plan) fault at = Ok plan
planned_of (Err cause) fault at = Err (plan_fault cause fault at)
