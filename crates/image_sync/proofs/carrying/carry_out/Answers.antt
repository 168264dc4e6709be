use Rattle.std.proofs.Common.{◌≡◌, List, ◌++◌, map, Result, Ok, sym, ap, subst, ◌∙◌}
use Rattle.disk_model.specs.DiskState.{DiskState}
use Rattle.staged_tree.specs.declared.group.GroupAnswer.{GroupAnswer}
use Rattle.staged_tree.specs.Guards.{Guarded}
use Rattle.store_core.specs.StoreState.{StoreState}
use Rattle.store_core.specs.Streams.{AppliesStream}
use Rattle.dump_streams.specs.Dumps.{command_of_step}
use Rattle.dump_diff.specs.Scripts.{removal_command}
use Rattle.synced_trees.specs.Plans.{plan_commands}
use Rattle.synced_trees.specs.declared.plan.SyncPlan.{SyncPlan}
use Rattle.image_sync.specs.declared.carrying.SyncAnswer.{SyncAnswer}
use Rattle.image_sync.specs.declared.planned.PlannedChanges.{PlannedChanges}
use Rattle.image_sync.specs.PlannedChanges.{KeepsPlan}
use Rattle.image_sync.specs.Carrying.{CarriesOut}
use Rattle.image_sync.proofs.Carried.{carried_ok, carried_error, all_of, front_of}
use Rattle.image_sync.proofs.carrying.carry_out.Goals as goal

-- the changes of the stream are those of the plan
plan_is : (plan : SyncPlan) (start stream : PlannedChanges) → start.removals.now ≡ plan.removals.items
    → start.additions.now ≡ plan.additions.items → KeepsPlan start stream
    → plan_commands plan ≡ map removal_command stream.removals.now ++ map command_of_step stream.additions.now
plan_is plan start stream removals additions keeps =
    let same = ap (λ r. r.now) keeps.removals ∙ removals in
    let same' = ap (λ r. r.now) keeps.additions ∙ additions in
    λ i. map removal_command (sym same i) ++ map command_of_step (sym same' i)

-- another answer that is the same
answered : {D F : Type 0} {came all : List Guarded → Type 0} {fails : List Guarded → F → Type 0} {state : D → DiskState}
    {old new : StoreState D} (r s : Result GroupAnswer F) → r ≡ s → AppliesStream came all fails state old new (Ok r)
    → AppliesStream came all fails state old new (Ok s)
answered {came = came} {all = all} {fails = fails} {state = state} {old = old} {new = new} r s same call =
    subst (λ t. AppliesStream came all fails state old new (Ok t)) same call

pub returns-in-Ok-Ok : goal.returns-in-Ok-Ok
returns-in-Ok-Ok g c =
    let stream = c.apply_stream.new.stream in
    let is = plan_is c.args.plan.now c.new-changes.result stream c.new-changes.ensures.removals
    c.new-changes.ensures.additions
    (c.apply_stream.ensures.keeps c.new-changes.result c.new-changes.ensures.keeps) in
    subst (λ (answer : SyncAnswer). CarriesOut g.D.Disk.state (plan_commands c.args.plan.now) c.args.store.now
    c.apply_stream.new.self (Ok answer)) (sym c.sync_answer.ensures)
    (carried_ok g.D.Disk.state c.args.store.now c.apply_stream.new.self (plan_commands c.args.plan.now) _ _ _
    (all_of stream (plan_commands c.args.plan.now) is) (front_of stream (plan_commands c.args.plan.now) is)
    c.in-Ok-Ok.answer (answered c.in-Ok-Ok.field-0 (Ok c.in-Ok-Ok.answer) c.in-Ok-Ok.field-0-is
    c.in-Ok-Ok.ensures.call))

pub returns-in-Err : goal.returns-in-Err
returns-in-Err g c =
    let stream = c.apply_stream.new.stream in
    let is = plan_is c.args.plan.now c.new-changes.result stream c.new-changes.ensures.removals
    c.new-changes.ensures.additions
    (c.apply_stream.ensures.keeps c.new-changes.result c.new-changes.ensures.keeps) in
    carried_error g.D.Disk.state c.args.store.now c.apply_stream.new.self (plan_commands c.args.plan.now) _ _ _
    (all_of stream (plan_commands c.args.plan.now) is) (front_of stream (plan_commands c.args.plan.now) is)
    c.in-Err.fault c.in-Err.ensures.call
