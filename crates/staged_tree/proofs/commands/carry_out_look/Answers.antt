use Rattle.std.proofs.Common.{Ok, Err, refl, sym, ap, subst, ◌∙◌}
use Rattle.store_model.specs.declared.version.Version.{Version}
use Rattle.seeded_draw.specs.declared.any.AnyDraw.{AnyDraw}
use Rattle.seeded_draw.specs.AnyDrawn.{any_draw}
use Rattle.script_lines.specs.Parsing.{command_of}
use Rattle.script_lines.specs.Replies.{reply_of}
use Rattle.skip_levels.specs.PagePairs.{KeepsList}
use Rattle.page_store.specs.StagedState.{StagedState, pages_state}
use Rattle.staged_tree.specs.StagedTree.{TreeList}
use Rattle.staged_tree.proofs.AnswerSteps.{answered_at, failed_at}
use Rattle.staged_tree.proofs.ListSteps.{AnswersList, looked_list, keeps_stays, back_stays, answers_at, whole_behind}
use Rattle.staged_tree.proofs.ListSteps.{same_behind, table_behind, over_table}
use Rattle.tree_commands.proofs.StepLemmas.{look_other}
use Rattle.staged_tree.proofs.commands.carry_out_look.Given.{Over}
use Rattle.staged_tree.proofs.commands.carry_out_look.Goals as goal

-- the list as it is opened, behind an answer
answered : (g : Over) (c : goal.After-discard g) (version : Version)
    → AnswersList g.D.Disk.state version (command_of c.args.command.now) c.args.pairs.now (record {
      pages = c.pairs.inside.pages;
      draw = c.pairs.inside.draw;
      is_whole = c.pairs.inside.is_whole;
    })
    (Ok c.answer.new.reply)
answered g c version =
    subst (λ (v : TreeList g.row.D.Denot). AnswersList g.D.Disk.state version
    (command_of c.args.command.now) c.args.pairs.now v (Ok c.answer.new.reply)) (sym c.pairs.view_is)
    (looked_list g.D.Disk.state version (command_of c.args.command.now)
    c.args.pairs.now c.answer.new.pairs (Ok c.answer.new.reply) c.in-Ok.ensures.follows c.in-Ok.ensures.call)

pub invariant_of-pairs : goal.invariant_of-pairs
invariant_of-pairs g c =
    let state = g.D.Disk.state in
    let s = c.pairs.inside in
    let some = c.requires.list in
    let command = command_of c.args.command.now in
    let same = same_behind state some.0 some.1.0 c.args.pairs.now some.1.1 c.requires.runs command _
    c.answer.new.reply (look_other some.0 command some.1.0 c.requires.looks (reply_of c.answer.new.reply))
    (answered g c some.1.0.version) in
    subst (λ (x : StagedState g.row.D.Denot AnyDraw).
    KeepsList (any_draw s.draw) s.is_whole (pages_state state x) s.walk.known) (sym c.discard.ensures)
    (keeps_stays state (any_draw s.draw) s.is_whole s.walk.known s.pages _
    (back_stays state s.pages same) c.pairs.invariant)

pub give_up-requires : goal.give_up-requires
give_up-requires g c =
    let some = c.requires.list in
    table_behind g.D.Disk.state some.0 some.0 some.1.0 c.args.pairs.now (over_table some.1.1 c.requires.runs)
    c.requires.runs c.answer.new.pairs c.in-Err.ensures.follows

pub returns-in-Ok-clause-call : goal.returns-in-Ok-clause-call
returns-in-Ok-clause-call g c t p has list =
    let state = g.D.Disk.state in
    let command = command_of c.args.command.now in
    answered_at state t command p c.args.pairs.now.pages c.pairs.inside.pages list.fitting list.pages c.requires.runs
    c.requires.command has c.answer.new.reply c.discard.new.self (Ok c.answer.new.reply) refl c.discard.ensures
    (look_other t command p c.requires.looks (reply_of c.answer.new.reply))
    (answers_at state t t p c.args.pairs.now (over_table list c.requires.runs) c.requires.runs command _
    (Ok c.answer.new.reply) (answered g c p.version))

pub returns-in-Ok-clause-list : goal.returns-in-Ok-clause-list
returns-in-Ok-clause-list g c =
    let state = g.D.Disk.state in
    let some = c.requires.list in
    let is = answered g c some.1.0.version in
    record {
      draw = is.follows.1;
      whole = λ observable. whole_behind state
          some.0 some.0 some.1.0 c.args.pairs.now (over_table some.1.1 c.requires.runs)
          c.requires.runs (command_of c.args.command.now) _ c.answer.new.reply is
          (ap (λ (x : StagedState g.row.D.Denot AnyDraw). (state x.disk).is_observable) (sym c.discard.ensures)
          ∙ observable);
    }

pub returns-in-Err-clause-call : goal.returns-in-Err-clause-call
returns-in-Err-clause-call g c t p has list =
    failed_at g.D.Disk.state t (command_of c.args.command.now) p
    c.args.pairs.now.pages c.answer.new.pairs.pages list.fitting list.pages c.requires.runs c.requires.command has
    c.in-Err.fault c.into.result c.give_up.new.pairs.pages (Err c.in-Err.fault) refl c.give_up.ensures.pages
    c.into.ensures (answers_at g.D.Disk.state t t p c.args.pairs.now (over_table list c.requires.runs)
    c.requires.runs (command_of c.args.command.now) c.answer.new.pairs (Err c.in-Err.fault)
    (looked_list g.D.Disk.state p.version (command_of c.args.command.now)
    c.args.pairs.now c.answer.new.pairs (Err c.in-Err.fault) c.in-Err.ensures.follows c.in-Err.ensures.call))
