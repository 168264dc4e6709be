use Rattle.std.proofs.Common.{Err, sym, ap, subst, ◌∙◌}
use Rattle.seeded_draw.specs.declared.any.AnyDraw.{AnyDraw}
use Rattle.seeded_draw.specs.AnyDrawn.{any_draw}
use Rattle.page_store.specs.StagedState.{StagedState}
use Rattle.image_check.specs.declared.fault.ApplyFault.{ApplyFault}
use Rattle.staged_tree.specs.Steps.{EndsUpgrade}
use Rattle.image_check.specs.Faults.{apply_fault_of}
use Rattle.staged_tree.proofs.ListSteps.{room_at, table_behind, over_table}
use Rattle.staged_tree.proofs.UpgradeLists.{whole_upgraded, upgrade_staged, list_upgraded, list_failed}
use Rattle.staged_tree.proofs.TreePages.{fits_within}
use Rattle.staged_tree.proofs.upgrade.upgrade_list.Goals as goal

pub inline_short_files-requires : goal.inline_short_files-requires
inline_short_files-requires g c = let some = c.requires.list in record {
  room = room_at g.D.Disk.state some.0 some.0 some.1.0 c.args.pairs.now (over_table some.1.1.0 c.requires.runs)
      c.requires.runs (λ observable. fits_within some.0 some.1.0 some.1.1.0.fitting);
}

pub end_upgrade-requires-clause-whole : goal.end_upgrade-requires-clause-whole
end_upgrade-requires-clause-whole g c =
    let some = c.requires.list in
    whole_upgraded g.D.Disk.state some.0 some.1.0 c.args.pairs.now some.1.1.0 c.requires.runs
    c.inline_short_files.new.pairs c.in-Ok.ensures.follows c.in-Ok.ensures.call

pub end_upgrade-requires-clause-staged : goal.end_upgrade-requires-clause-staged
end_upgrade-requires-clause-staged g c =
    let some = c.requires.list in
    let staged = upgrade_staged g.D.Disk.state some.0 some.1.0 c.args.pairs.now some.1.1.0 c.requires.runs
    c.inline_short_files.new.pairs c.in-Ok.ensures.follows c.in-Ok.ensures.call in
    (some.0, (some.1.0, (staged, (ap any_draw c.in-Ok.ensures.follows.1 ∙ some.1.1.0.draw, some.1.1.1))))

pub returns-in-Ok-clause-call : goal.returns-in-Ok-clause-call
returns-in-Ok-clause-call g c t p list =
    let state = g.D.Disk.state in
    let old = c.args.pairs.now in
    let mid = c.inline_short_files.new.pairs in
    let staged = upgrade_staged state t p old list c.requires.runs mid c.in-Ok.ensures.follows c.in-Ok.ensures.call in
    list_upgraded state t p old list c.requires.runs mid
    c.in-Ok.ensures.follows c.in-Ok.ensures.call c.end_upgrade.new.pairs c.end_upgrade.result
    (c.end_upgrade.ensures.call t p staged)

-- ---- failed

pub give_up-requires : goal.give_up-requires
give_up-requires g c =
    let some = c.requires.list in
    table_behind g.D.Disk.state some.0 some.0 some.1.0 c.args.pairs.now (over_table some.1.1.0 c.requires.runs)
    c.requires.runs c.inline_short_files.new.pairs c.in-Err.ensures.follows

pub returns-in-Err-clause-call : goal.returns-in-Err-clause-call
returns-in-Err-clause-call g c t p list =
    let state = g.D.Disk.state in
    let old = c.args.pairs.now in
    let mid = c.inline_short_files.new.pairs in
    let failed = list_failed state t p old list c.requires.runs mid
    c.in-Err.ensures.follows c.in-Err.fault c.in-Err.ensures.call in
    subst (λ (f : ApplyFault). EndsUpgrade state t p old.pages c.give_up.new.pairs.pages (Err f)) (sym c.into.ensures)
    (subst (λ (x : StagedState g.row.D.Denot AnyDraw).
    EndsUpgrade state t p old.pages x (Err (apply_fault_of c.in-Err.fault))) (sym c.give_up.ensures.pages) failed)
