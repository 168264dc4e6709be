use Rattle.std.proofs.Common.{Result, Ok, Err, refl, sym, ap, subst, ◌∙◌}
use Rattle.store_model.specs.declared.refusal.Refusal.{Refusal}
use Rattle.store_base.specs.declared.store_fault.Fault.{Fault}
use Rattle.seeded_draw.specs.declared.any.AnyDraw.{AnyDraw}
use Rattle.seeded_draw.specs.AnyDrawn.{any_draw}
use Rattle.script_lines.specs.declared.reply.Reply.TheVariants as replies
use Rattle.script_lines.specs.Parsing.{command_of}
use Rattle.skip_levels.specs.PagePairs.{KeepsList}
use Rattle.tree_pairs.specs.TreeCalls.{uncounted_step}
use Rattle.page_store.specs.StagedState.{StagedState, pages_state}
use Rattle.tree_commands.specs.Answers.{change_reply}
use Rattle.staged_tree.specs.StagedTree.{TreeList}
use Rattle.staged_tree.proofs.AnswerSteps.{acked, acked_staged, answered_at, failed_at}
use Rattle.staged_tree.proofs.ListSteps.{AnswersList, changed_list, keeps_stays, back_stays, room_at, answers_at}
use Rattle.staged_tree.proofs.ListSteps.{whole_behind, same_behind, table_behind, over_table}
use Rattle.staged_tree.proofs.TreePages.{fits_within}
use Rattle.staged_tree.proofs.commands.carry_out_change.Given.{Over}
use Rattle.staged_tree.proofs.commands.carry_out_change.Goals as goal

pub change-requires-clause-room : goal.change-requires-clause-room
change-requires-clause-room g c = let some = c.requires.list
    in room_at g.D.Disk.state some.0 some.0 c.args.params.now c.args.pairs.now (over_table some.1 c.requires.runs)
    c.requires.runs (λ observable. fits_within some.0 c.args.params.now some.1.fitting)

-- ---- acknowledged

acknowledged : (g : Over) (c : goal.After-end_change-arg-1 g)
    → AnswersList g.D.Disk.state c.args.params.now.version (command_of c.args.command.now)
    c.args.pairs.now c.change.new.pairs (Ok replies.Ok)
acknowledged g c =
    changed_list g.D.Disk.state c.args.params.now c.version.result (command_of c.args.command.now)
    c.args.pairs.now c.change.new.pairs (Ok c.in-Ok-Ok.field-0)
    (Ok replies.Ok) c.version.ensures.value
    (ap (λ (x : Result (Unit {0}) Refusal). change_reply {F = Fault} (Ok x)) c.in-Ok-Ok.field-0-is)
    c.in-Ok-Ok.ensures.follows
    c.in-Ok-Ok.ensures.call

pub end_change-requires-clause-whole : goal.end_change-requires-clause-whole
end_change-requires-clause-whole g c =
    let some = c.requires.list in
    whole_behind g.D.Disk.state some.0 some.0 c.args.params.now c.args.pairs.now (over_table some.1 c.requires.runs)
    c.requires.runs (command_of c.args.command.now) c.change.new.pairs replies.Ok (acknowledged g c)

pub end_change-requires-clause-staged : goal.end_change-requires-clause-staged
end_change-requires-clause-staged g c =
    let state = g.D.Disk.state in
    let some = c.requires.list in
    let old = c.args.pairs.now in
    let mid = c.change.new.pairs in
    let command = command_of c.args.command.now in
    let answers = answers_at state some.0 some.0 c.args.params.now old
    (over_table some.1 c.requires.runs) c.requires.runs command mid (Ok replies.Ok) (acknowledged g c) in (
      some.0,
      (
        (uncounted_step some.0 command c.args.params.now).tree,
        (
          c.args.params.now,
          (
            acked_staged state some.0 command
                c.args.params.now old.pages mid.pages some.1.fitting some.1.pages c.requires.runs c.requires.command
                c.requires.version answers,
            ap any_draw c.in-Ok-Ok.ensures.follows.1 ∙ some.1.draw,
          ),
        ),
      ),
    )

pub returns-in-Ok-Ok-clause-call : goal.returns-in-Ok-Ok-clause-call
returns-in-Ok-Ok-clause-call g c t list =
    let p = c.args.params.now in
    let state = g.D.Disk.state in
    let old = c.args.pairs.now in
    let mid = c.change.new.pairs in
    let command = command_of c.args.command.now in
    let is = changed_list state c.args.params.now c.version.result command old mid (Ok c.in-Ok-Ok.field-0)
    (Ok replies.Ok) c.version.ensures.value
    (ap (λ (x : Result (Unit {0}) Refusal). change_reply {F = Fault} (Ok x)) c.in-Ok-Ok.field-0-is)
    c.in-Ok-Ok.ensures.follows c.in-Ok-Ok.ensures.call in
    acked state t command p old.pages mid.pages list.fitting list.pages c.requires.runs c.requires.command
    c.requires.version c.end_change.new.pairs.pages (change_reply c.end_change.result)
    (answers_at state t t p old (over_table list c.requires.runs) c.requires.runs command mid (Ok replies.Ok) is)
    c.end_change.ensures.call

-- ---- refused

-- the list as it is opened, behind a refusal
refused : (g : Over) (c : goal.After-discard g)
    → AnswersList g.D.Disk.state c.args.params.now.version (command_of c.args.command.now) c.args.pairs.now (record {
      pages = c.pairs.inside.pages;
      draw = c.pairs.inside.draw;
      is_whole = c.pairs.inside.is_whole;
    })
    (Ok (replies.No c.in-Ok-Err.refusal))
refused g c =
    subst (λ (v : TreeList g.row.D.Denot).
    AnswersList g.D.Disk.state c.args.params.now.version (command_of c.args.command.now) c.args.pairs.now v
    (Ok (replies.No c.in-Ok-Err.refusal))) (sym c.pairs.view_is)
    (changed_list g.D.Disk.state c.args.params.now c.version.result (command_of c.args.command.now)
    c.args.pairs.now c.change.new.pairs (Ok c.in-Ok-Err.field-0)
    (Ok (replies.No c.in-Ok-Err.refusal)) c.version.ensures.value
    (ap (λ (x : Result (Unit {0}) Refusal). change_reply {F = Fault} (Ok x)) c.in-Ok-Err.field-0-is)
    c.in-Ok-Err.ensures.follows c.in-Ok-Err.ensures.call)

pub invariant_of-pairs : goal.invariant_of-pairs
invariant_of-pairs g c =
    let state = g.D.Disk.state in
    let s = c.pairs.inside in
    let some = c.requires.list in
    let same = same_behind state some.0 c.args.params.now c.args.pairs.now some.1 c.requires.runs
    (command_of c.args.command.now) _ (replies.No c.in-Ok-Err.refusal) (λ is other. cc) (refused g c) in
    subst (λ (x : StagedState g.row.D.Denot AnyDraw).
    KeepsList (any_draw s.draw) s.is_whole (pages_state state x) s.walk.known) (sym c.discard.ensures)
    (keeps_stays state (any_draw s.draw) s.is_whole s.walk.known s.pages _
    (back_stays state s.pages same) c.pairs.invariant)

pub returns-in-Ok-Err-clause-call : goal.returns-in-Ok-Err-clause-call
returns-in-Ok-Err-clause-call g c t list =
    let p = c.args.params.now in
    let state = g.D.Disk.state in
    let command = command_of c.args.command.now in
    let reply = replies.No c.in-Ok-Err.refusal in
    answered_at state t command p c.args.pairs.now.pages c.pairs.inside.pages list.fitting list.pages c.requires.runs
    c.requires.command c.requires.version reply c.discard.new.self (Ok reply) refl
    c.discard.ensures (λ is other. cc)
    (answers_at state t t p c.args.pairs.now (over_table list c.requires.runs) c.requires.runs command _
    (Ok reply) (refused g c))

pub returns-in-Ok-Err-clause-list : goal.returns-in-Ok-Err-clause-list
returns-in-Ok-Err-clause-list g c =
    let state = g.D.Disk.state in
    let some = c.requires.list in
    let is = refused g c in
    record {
      draw = is.follows.1;
      whole = λ observable. whole_behind state some.0 some.0 c.args.params.now c.args.pairs.now
          (over_table some.1 c.requires.runs) c.requires.runs (command_of c.args.command.now) _
          (replies.No c.in-Ok-Err.refusal) is
          (ap (λ (x : StagedState g.row.D.Denot AnyDraw). (state x.disk).is_observable) (sym c.discard.ensures)
          ∙ observable);
    }

-- ---- failed

pub give_up-requires : goal.give_up-requires
give_up-requires g c =
    let some = c.requires.list in
    table_behind g.D.Disk.state some.0 some.0 c.args.params.now c.args.pairs.now (over_table some.1 c.requires.runs)
    c.requires.runs c.change.new.pairs c.in-Err.ensures.follows

pub returns-in-Err-clause-call : goal.returns-in-Err-clause-call
returns-in-Err-clause-call g c t list =
    let p = c.args.params.now in
    let state = g.D.Disk.state in
    let command = command_of c.args.command.now in
    let is = changed_list state c.args.params.now c.version.result command
    c.args.pairs.now c.change.new.pairs (Err c.in-Err.fault)
    (Err c.in-Err.fault) c.version.ensures.value refl c.in-Err.ensures.follows c.in-Err.ensures.call in
    failed_at state t command p c.args.pairs.now.pages c.change.new.pairs.pages list.fitting list.pages c.requires.runs
    c.requires.command c.requires.version c.in-Err.fault c.into.result c.give_up.new.pairs.pages
    (Err c.in-Err.fault) refl c.give_up.ensures.pages
    c.into.ensures (answers_at state t t p c.args.pairs.now (over_table list c.requires.runs) c.requires.runs command
    c.change.new.pairs (Err c.in-Err.fault) is)
