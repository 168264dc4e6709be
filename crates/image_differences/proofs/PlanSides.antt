-- What a plan for two streams says of a store and a folder.
use Rattle.std.proofs.Common.{◌≡◌, ◌⊎◌, ◌^◌, ◌<◌, List, [], length, true, Option, Result, Ok}
use Rattle.std.proofs.Common.{Err, IfOk, IfErr, OnOk, refl, sym, subst, arith}
use Rattle.store_model.specs.declared.version.Version.TheVariants.{Two}
use Rattle.store_model.specs.declared.draw_kind.DrawKind.TheVariants.{Ruler}
use Rattle.store_model.specs.Parameters.{Parameters}
use Rattle.store_model.specs.Paths.{Path}
use Rattle.store_model.specs.Trees.{Tree, IsTree}
use Rattle.disk_model.specs.DiskState.{DiskState, IsObservable}
use Rattle.dump_streams.specs.Dumps.{dump}
use Rattle.dump_streams.specs.declared.fault.StreamFault.{StreamFault}
use Rattle.dump_diff.specs.declared.losses.Losses.{Losses}
use Rattle.dump_diff.specs.declared.fault.CompareFault.TheVariants as compares
use Rattle.synced_trees.specs.declared.plan.SyncPlan.{SyncPlan}
use Rattle.synced_trees.specs.declared.plan.PlanFault.{PlanFault}
use Rattle.synced_trees.specs.declared.plan.PlanFault.TheVariants as plans
use Rattle.synced_trees.specs.Syncing.{hides}
use Rattle.synced_trees.specs.Plans.{PlansFor, IsPlanOf, IsUnplanned}
use Rattle.host_folders.specs.FolderState.{FolderState}
use Rattle.host_folders.specs.Packed.{CameOf}
use Rattle.host_folders.specs.declared.found.Found.{Found}
use Rattle.host_folders.specs.declared.stream.FolderStream.{FolderStream}
use Rattle.image_check.specs.declared.fault.ApplyFault.{ApplyFault}
use Rattle.image_reads.specs.Faults.{store_fault}
use Rattle.image_differences.specs.declared.planning.FolderPlanFault.{FolderPlanFault}
use Rattle.image_differences.specs.Compared.{IsStoreBlamed}
use Rattle.image_differences.specs.Told.{ReadsTree, IsUntold, tree_fault}
use Rattle.image_differences.specs.Planning.{PlansFolder, IsUnplannedFolder, plan_fault, planned_of}

some_parameters : Parameters
some_parameters = record { slots = 1; height = 1; kind = Ruler; seed = []; version = Two }

-- what came of a folder is a tree
pub came_tree : {F : Type 0} (state_of : F → FolderState) (stream : FolderStream F) (t : Tree)
    → CameOf state_of stream t
    → IsTree t
unfolding some_parameters
came_tree state_of stream t came = ((came.read some_parameters refl).under).is_tree

module _ (losses : Losses) (t : Tree) (found : List Found) (folder folder' : FolderState) (whole whole' : Tree → Type 0)
    (reads : (u : Tree) → whole' u → ReadsTree folder folder' found u) where
  pub planned_so : ((u : Tree) → whole u → u ≡ t) → (plan : SyncPlan) → IsPlanOf losses whole whole' plan
      → PlansFolder losses found folder folder' t plan
  planned_so same plan is = record {
    told = is.told;
    reads = reads is.told is.second;
    plans = subst (λ (u : Tree). PlansFor losses u is.told plan) (same is.old is.first) is.plans;
  }

  module _ (disk disk' : DiskState) (came came' : Tree → Type 0) (fails fails' : Tree → StreamFault → Type 0)
      (fault : Option ApplyFault) (at : Option Path)
      (blamed : (u : Tree) (cause : StreamFault) → fails u cause → IsStoreBlamed disk disk' (store_fault fault))
      (untold : (u : Tree) (cause : StreamFault) → fails' u cause → IsUntold folder folder' (tree_fault cause at))
      (few : (u : Tree) → came u ⊎ whole u → IsObservable disk → length (dump u) < 2 ^ 32)
      (few' : (u : Tree) → came' u ⊎ whole' u → length (dump u) < 2 ^ 50)
      (same : (u : Tree) → whole u → IsObservable disk → u ≡ t) where
    pub unplanned : (cause : PlanFault) → IsUnplanned losses came whole fails came' whole' fails' cause
        → IsUnplannedFolder losses disk disk' found folder folder' t (plan_fault cause fault at)
    unplanned (plans.Compare (compares.First cause)) why = blamed why.tree cause why.told
    unplanned (plans.Compare (compares.Second cause)) why = untold why.tree cause why.told
    unplanned (plans.Compare compares.TooLong) why = record {
      store = λ seen.
          let a = few why.one why.first seen in
          let b = few' why.other why.second in
          let many = why.many in
          absurd (omega (arith, a, b, many));
      not_output = λ e. cc;
    }
    unplanned (plans.Compare (compares.NoMemory cause)) why = tt
    unplanned (plans.Hidden p) why = λ seen. record {
      told = why.told;
      reads = reads why.told why.second;
      keeps = why.keeps;
      hidden = subst (λ (u : Tree). hides u why.told p ≡ true) (same why.old why.first seen) why.hidden;
    }

-- what is found of them
module _ (planned : Result SyncPlan PlanFault) (fault : Option ApplyFault) (at : Option Path)
    (result : Result SyncPlan FolderPlanFault) (is : result ≡ planned_of planned fault at) where
  pub plan_so : (A B : SyncPlan → Type 0) → ((plan : SyncPlan) → A plan → B plan) → IfOk planned A → IfOk result B
  plan_so A B so told = subst (λ (r : Result SyncPlan FolderPlanFault). IfOk r B) (sym is) (by_case planned told)
    where
      by_case : (c : Result SyncPlan PlanFault) → IfOk c A → IfOk (planned_of c fault at) B
      by_case (Ok plan) a = so plan a
      by_case (Err cause) a = tt

  pub plan_goes : (A : SyncPlan → Type 0) (B : Type 0) → ((plan : SyncPlan) → A plan → B) → IfOk planned A
      → OnOk result B
  plan_goes A B so told = subst (λ (r : Result SyncPlan FolderPlanFault). OnOk r B) (sym is) (by_case planned told)
    where
      by_case : (c : Result SyncPlan PlanFault) → IfOk c A → OnOk (planned_of c fault at) B
      by_case (Ok plan) a = so plan a
      by_case (Err cause) a = tt

  pub fault_so : (C : PlanFault → Type 0) (A : FolderPlanFault → Type 0)
      → ((cause : PlanFault) → C cause → A (plan_fault cause fault at)) → IfErr planned C → IfErr result A
  fault_so C A so told = subst (λ (r : Result SyncPlan FolderPlanFault). IfErr r A) (sym is) (by_case planned told)
    where
      by_case : (c : Result SyncPlan PlanFault) → IfErr c C → IfErr (planned_of c fault at) A
      by_case (Ok plan) a = tt
      by_case (Err cause) a = so cause a
