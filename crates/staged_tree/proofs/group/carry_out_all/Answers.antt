use Rattle.std.proofs.Common.{Ok, Err, map, sym, ap, subst, ◌∙◌}
use Rattle.seeded_draw.specs.declared.any.AnyDraw.{AnyDraw}
use Rattle.script_lines.specs.Sessions.{change_of}
use Rattle.page_store.specs.StagedState.{StagedState}
use Rattle.image_check.specs.declared.fault.ApplyFault.{ApplyFault}
use Rattle.image_check.specs.Faults.{apply_fault_of}
use Rattle.staged_tree.specs.declared.group.GroupAnswer.TheVariants as answers
use Rattle.staged_tree.specs.Groups.{group_tree, IsGroupAnswer}
use Rattle.staged_tree.specs.Steps.{EndsStep}
use Rattle.staged_tree.proofs.GroupSteps.{refused_ends, refused_fits, failed_ends, done_ends, done_fits}
use Rattle.staged_tree.proofs.ListSteps.{over_table, fits_table, table_behind}
use Rattle.staged_tree.proofs.group.carry_out_all.Goals as goal

pub stage_all-requires-clause-list : goal.stage_all-requires-clause-list
stage_all-requires-clause-list g c = (c.requires.list.0, fits_table c.requires.list.1 c.requires.runs)

-- ---- all are staged

pub end_group-requires-clause-list : goal.end_group-requires-clause-list
end_group-requires-clause-list g c = let some = c.requires.list
    in (
      some.0,
      (
        _,
        (
          c.args.params.now,
          (c.in-Ok-Done.ensures.call some.0 (fits_table some.1 c.requires.runs)).goes
              (ap Ok c.in-Ok-Done.field-0-is),
        ),
      ),
    )

pub returns-in-Ok-Done-clause-call : goal.returns-in-Ok-Done-clause-call
returns-in-Ok-Done-clause-call g c t list =
    let p = c.args.params.now in
    done_ends g.D.Disk.state t p (map change_of c.args.changes.now) c.args.pairs.now c.stage_all.new.pairs list
    c.requires.runs c.in-Ok-Done.ensures.follows c.in-Ok-Done.field-0 c.in-Ok-Done.field-0-is
    (c.in-Ok-Done.ensures.call t (fits_table list c.requires.runs))
    c.end_group.new.pairs.pages c.end_group.result (λ next staged. c.end_group.ensures.call t next p staged)

pub returns-in-Ok-Done-clause-fits : goal.returns-in-Ok-Done-clause-fits
returns-in-Ok-Done-clause-fits g c t list =
    done_fits g.D.Disk.state t c.args.params.now (map change_of c.args.changes.now)
    c.args.pairs.now c.stage_all.new.pairs list
    c.requires.runs c.in-Ok-Done.ensures.follows c.in-Ok-Done.field-0 c.in-Ok-Done.field-0-is
    (c.in-Ok-Done.ensures.call t (fits_table list c.requires.runs)) c.end_group.result

-- ---- one is refused

pub give_up-requires : goal.give_up-requires
give_up-requires g c =
    let some = c.requires.list in
    table_behind g.D.Disk.state some.0 some.0 c.args.params.now c.args.pairs.now (over_table some.1 c.requires.runs)
    c.requires.runs c.stage_all.new.pairs c.in-Ok-Refused.ensures.follows

pub returns-in-Ok-Refused-clause-call : goal.returns-in-Ok-Refused-clause-call
returns-in-Ok-Refused-clause-call g c t list =
    let state = g.D.Disk.state in
    let p = c.args.params.now in
    let group = map change_of c.args.changes.now in
    let answer = answers.Refused c.in-Ok-Refused.index c.in-Ok-Refused.reply in
    let old = c.args.pairs.now in
    subst (λ (s : StagedState g.row.D.Denot AnyDraw).
    EndsStep state t (group_tree p t group) (IsGroupAnswer p t group) p old.pages s (Ok answer))
    (sym c.give_up.ensures.pages)
    (refused_ends state t p group old c.stage_all.new.pairs list
    c.requires.runs c.in-Ok-Refused.ensures.follows c.in-Ok-Refused.field-0 c.in-Ok-Refused.index
    c.in-Ok-Refused.reply c.in-Ok-Refused.field-0-is
    (c.in-Ok-Refused.ensures.call t (fits_table list c.requires.runs)))

pub returns-in-Ok-Refused-clause-fits : goal.returns-in-Ok-Refused-clause-fits
returns-in-Ok-Refused-clause-fits g c t list =
    refused_fits g.D.Disk.state t c.args.params.now (map change_of c.args.changes.now)
    c.args.pairs.now c.stage_all.new.pairs list
    c.requires.runs c.in-Ok-Refused.ensures.follows c.in-Ok-Refused.field-0 c.in-Ok-Refused.index
    c.in-Ok-Refused.reply c.in-Ok-Refused.field-0-is
    (c.in-Ok-Refused.ensures.call t (fits_table list c.requires.runs))

-- ---- it failed

pub give_up-requires-in-Err : goal.give_up-requires-in-Err
give_up-requires-in-Err g c =
    let some = c.requires.list in
    table_behind g.D.Disk.state some.0 some.0 c.args.params.now c.args.pairs.now (over_table some.1 c.requires.runs)
    c.requires.runs c.stage_all.new.pairs c.in-Err.ensures.follows

pub returns-in-Err-clause-call : goal.returns-in-Err-clause-call
returns-in-Err-clause-call g c t list =
    let state = g.D.Disk.state in
    let p = c.args.params.now in
    let group = map change_of c.args.changes.now in
    let old = c.args.pairs.now in
    subst (λ (f : ApplyFault). EndsStep state t (group_tree p t group)
    (IsGroupAnswer p t group) p old.pages c.give_up-in-Err.new.pairs.pages (Err f)) (sym c.into.ensures)
    (subst (λ (s : StagedState g.row.D.Denot AnyDraw).
    EndsStep state t (group_tree p t group) (IsGroupAnswer p t group) p old.pages s
    (Err (apply_fault_of c.in-Err.fault))) (sym c.give_up-in-Err.ensures.pages)
    (failed_ends state t p group old c.stage_all.new.pairs list
    c.requires.runs c.in-Err.ensures.follows c.in-Err.fault
    (c.in-Err.ensures.call t (fits_table list c.requires.runs))))

-- ---- the list goes on

pub returns-in-Ok-Done-clause-list : goal.returns-in-Ok-Done-clause-list
returns-in-Ok-Done-clause-list g c = record {
  draw = c.end_group.ensures.list.draw ∙ c.in-Ok-Done.ensures.follows.1;
  whole = c.end_group.ensures.list.whole;
}

pub returns-in-Ok-Refused-clause-list : goal.returns-in-Ok-Refused-clause-list
returns-in-Ok-Refused-clause-list g c = record {
  draw = c.give_up.ensures.list.draw ∙ c.in-Ok-Refused.ensures.follows.1;
  whole = c.give_up.ensures.list.whole;
}

pub returns-in-Err-clause-list : goal.returns-in-Err-clause-list
returns-in-Err-clause-list g c = record {
  draw = c.give_up-in-Err.ensures.list.draw ∙ c.in-Err.ensures.follows.1;
  whole = c.give_up-in-Err.ensures.list.whole;
}
