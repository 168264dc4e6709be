use Rattle.std.proofs.Common.{◌≡◌, ◌≤◌, ◌⊎◌, false, vec_len, inl, inr, refl, sym, ap, subst, ◌∙◌}
use Rattle.store_model.specs.Trees.{Tree, IsTree}
use Rattle.disk_model.specs.DiskState.{IsObservable}
use Rattle.synced_trees.specs.Plans.{IsPlanOf, IsUnplanned}
use Rattle.host_folders.specs.Packed as packed
use Rattle.store_stream.specs.StoreStreams.{CameOf, IsWhole, EndsBy}
use Rattle.image_differences.specs.Planning.{PlansFolder, IsUnplannedFolder}
use Rattle.image_differences.proofs.StoreSides.{reads_so, tree_is, whole_is, few_came, blamed}
use Rattle.image_differences.proofs.FolderSides.{folder_few, reads_tree, unread_tree}
use Rattle.image_differences.proofs.PlanSides.{came_tree, planned_so, unplanned, plan_so, plan_goes, fault_so}
use Rattle.image_differences.proofs.planning.plan_folder.Goals as goal

pub returns-clause-read : goal.returns-clause-read
returns-clause-read g c =
    let start = c.new-one.result in
    let kept = c.plan_sync-planned.ensures.keeps_first start c.new-one.ensures.keeps in
    reads_so g.D.Disk.state c.args.store start c.plan_sync-planned.new.first c.new-one.ensures.store
    c.new-one.ensures.fault kept c.new-one.ensures.fitting c.requires.runs c.into_store.result c.into_store.ensures

pub returns-clause-tree : goal.returns-clause-tree
returns-clause-tree g c =
    let start = c.new-one.result in
    let kept = c.plan_sync-planned.ensures.keeps_first start c.new-one.ensures.keeps in
    ap (λ s. s.tree) c.into_store.ensures
    ∙ tree_is g.D.Disk.state c.args.store start c.plan_sync-planned.new.first c.new-one.ensures.store
    c.new-one.ensures.fault kept c.new-one.ensures.fitting c.requires.runs

pub returns-clause-params : goal.returns-clause-params
returns-clause-params g c =
    let kept = c.plan_sync-planned.ensures.keeps_first c.new-one.result c.new-one.ensures.keeps in
    ap (λ s. s.params) c.into_store.ensures ∙ kept.params ∙ ap (λ s. s.params) c.new-one.ensures.store

pub returns-clause-goes_on : goal.returns-clause-goes_on
returns-clause-goes_on g c =
    let one = c.plan_sync-planned.new.first in
    let other = c.plan_sync-planned.new.second in
    let kept = c.plan_sync-planned.ensures.keeps_first c.new-one.result c.new-one.ensures.keeps in
    plan_goes c.plan_sync-planned.result c.fault.result c.path.result c.planned_of-plan.result
    c.planned_of-plan.ensures
    (IsPlanOf c.args.losses.now (IsWhole g.D.Disk.state one) (packed.IsPacked g.F.Folder.state other))
    (c.into_store.result.is_stopped ≡ false)
    (λ plan is. ap (λ s. s.is_stopped) c.into_store.ensures
    ∙ kept.runs c.new-one.ensures.fault (ap (λ s. s.is_stopped) c.new-one.ensures.store ∙ c.requires.runs)
    (is.first).going)
    (c.plan_sync-planned.ensures.plans c.new-one.ensures.came c.new-other.ensures.came)

pub returns-clause-plans : goal.returns-clause-plans
returns-clause-plans g c =
    let state = g.D.Disk.state in
    let folder_state = g.F.Folder.state in
    let start = c.new-one.result in
    let start' = c.new-other.result in
    let one = c.plan_sync-planned.new.first in
    let other = c.plan_sync-planned.new.second in
    let kept = c.plan_sync-planned.ensures.keeps_first start c.new-one.ensures.keeps in
    let kept' = c.plan_sync-planned.ensures.keeps_second start' (record { first = refl; found = refl }) in
    plan_so c.plan_sync-planned.result c.fault.result c.path.result c.planned_of-plan.result
    c.planned_of-plan.ensures
    (IsPlanOf c.args.losses.now (IsWhole state one) (packed.IsPacked folder_state other))
    (λ plan. IsObservable (state c.args.store.disk) → PlansFolder c.args.losses.now c.args.found.items
    (folder_state c.args.folder) (folder_state c.into_folder.result) c.args.store.tree plan)
    (λ plan is seen. planned_so c.args.losses.now c.args.store.tree c.args.found.items (folder_state c.args.folder)
    (folder_state c.into_folder.result) (IsWhole state one) (packed.IsPacked folder_state other)
    (λ u whole. reads_tree folder_state other c.args.folder c.into_folder.result
    (ap (λ s. s.value) kept'.first ∙ c.new-other.ensures.first) c.into_folder.ensures c.args.found.items
    (ap (λ f. f.items) (kept'.found ∙ c.new-other.ensures.found)) u whole)
    (λ u whole. whole_is state c.args.store start one c.new-one.ensures.store c.new-one.ensures.fault kept
    c.new-one.ensures.fitting c.requires.runs u whole seen) plan is)
    (c.plan_sync-planned.ensures.plans c.new-one.ensures.came c.new-other.ensures.came)

pub returns-clause-failed : goal.returns-clause-failed
returns-clause-failed g c =
    let state = g.D.Disk.state in
    let folder_state = g.F.Folder.state in
    let start = c.new-one.result in
    let start' = c.new-other.result in
    let one = c.plan_sync-planned.new.first in
    let other = c.plan_sync-planned.new.second in
    let old_is = c.new-one.ensures.store in
    let going = c.new-one.ensures.fault in
    let fitting = c.new-one.ensures.fitting in
    let kept = c.plan_sync-planned.ensures.keeps_first start c.new-one.ensures.keeps in
    let kept' = c.plan_sync-planned.ensures.keeps_second start' (record { first = refl; found = refl }) in
    let first = ap (λ s. s.value) kept'.first ∙ c.new-other.ensures.first in
    let found_is = kept'.found ∙ c.new-other.ensures.found in
    let found_few = subst (λ f. vec_len f ≤ 16777216) (sym found_is) c.requires.few in
    fault_so c.plan_sync-planned.result c.fault.result c.path.result c.planned_of-plan.result
    c.planned_of-plan.ensures
    (IsUnplanned c.args.losses.now (CameOf state one) (IsWhole state one) (EndsBy state one)
    (packed.CameOf folder_state other) (packed.IsPacked folder_state other) (packed.EndsBy folder_state other))
    (IsUnplannedFolder c.args.losses.now (state c.args.store.disk) (state c.into_store.result.disk) c.args.found.items
    (folder_state c.args.folder) (folder_state c.into_folder.result) c.args.store.tree)
    (unplanned c.args.losses.now c.args.store.tree c.args.found.items (folder_state c.args.folder)
    (folder_state c.into_folder.result) (IsWhole state one) (packed.IsPacked folder_state other)
    (λ u whole. reads_tree folder_state other c.args.folder c.into_folder.result first c.into_folder.ensures
    c.args.found.items (ap (λ f. f.items) found_is) u whole)
    (state c.args.store.disk) (state c.into_store.result.disk) (CameOf state one) (packed.CameOf folder_state other)
    (EndsBy state one) (packed.EndsBy folder_state other) c.fault.result c.path.result
    (λ u cause ends. blamed state c.args.store start one old_is going kept fitting c.requires.runs u cause (inl ends)
    c.fault.result c.fault.ensures c.into_store.result c.into_store.ensures)
    (λ u cause ends. unread_tree folder_state other c.args.folder c.into_folder.result first c.into_folder.ensures
    u cause c.path.result c.path.ensures ends)
    (few_came state c.args.store start one old_is going kept fitting c.requires.runs)
    (λ u is. folder_few folder_state other found_few u (tree_of u is) is)
    (whole_is state c.args.store start one old_is going kept fitting c.requires.runs))
    (c.plan_sync-planned.ensures.failed c.new-one.ensures.came c.new-other.ensures.came)
  where
    tree_of : (u : Tree) → packed.CameOf g.F.Folder.state c.plan_sync-planned.new.second u
        ⊎ packed.IsPacked g.F.Folder.state c.plan_sync-planned.new.second u → IsTree u
    tree_of u (inl came) = came_tree g.F.Folder.state c.plan_sync-planned.new.second u came
    tree_of u (inr whole) = whole.is_tree
