use Rattle.std.proofs.Common.{◌≡◌, Result, Ok, sym, subst}
use Rattle.std.specs.FinMap as maps
use Rattle.store_base.specs.declared.store_fault.Fault.{Fault}
use Rattle.store_model.specs.declared.refusal.Refusal.{Refusal}
use Rattle.disk_model.specs.DiskState.{IsObservable}
use Rattle.script_lines.specs.Parsing.{command_of}
use Rattle.staged_tree.specs.StagedTree.{TreeList}
use Rattle.staged_tree.specs.Staging.{counted_answer, StagesChange, StagesRoomy}
use Rattle.staged_tree.proofs.GroupSteps.{change_refused, change_counted}
use Rattle.staged_tree.proofs.ListSteps.{as_within}
use Rattle.staged_tree.proofs.group.stage_change.Goals as goal
use Rattle.staged_tree.proofs.group.stage_change.Goals.{in-Ok, in-Err}

pub stage_roomy-requires-clause-list : goal.stage_roomy-requires-clause-list
stage_roomy-requires-clause-list g c = let some = c.requires.list in (some.0, (some.1.0, as_within some.1.1))

pub returns-clause-call : goal.returns-clause-call
returns-clause-call g c t now list =
    let state = g.D.Disk.state in
    let p = c.args.params.now in
    let change = command_of c.args.command.now in
    let old = c.args.pairs.now in
    let new = c.stage_roomy.new.pairs in
    let Stages = λ (r : Result (Unit {0}) Refusal). StagesRoomy state t now p change old new (Ok r) in
    let stages = c.in_ok-stage_roomy.ensures.call t now list.over in
    let follows = c.in_ok-stage_roomy.ensures.follows in
    elim c.match-branch-2.branch [
      | in-Ok w ↦
          let counts = subst (λ (v : TreeList g.row.D.Denot). IsObservable (state v.pages.disk)
          → w.count_pages.result ≡ counted_answer (maps.len v.pages.map) p.slots)
          c.pairs.view_is w.count_pages.ensures in
          subst (λ (r : Result (Result (Unit {0}) Refusal) Fault). StagesChange state t now p change old new r)
          (sym w.result-is)
          (change_counted state t now p change old new list follows c.reveal.ensures w.in-Ok.field-0
          (subst Stages w.in-Ok.is stages) w.count_pages.result counts)
      | in-Err w ↦
          subst (λ (r : Result (Result (Unit {0}) Refusal) Fault). StagesChange state t now p change old new r)
          (sym w.result-is)
          (change_refused state t now p change old new list follows w.in-Err.refusal
          (subst Stages w.in-Err.is stages))
    ]
