use Rattle.std.proofs.Common.{Result, Ok, refl, subst, ◌∙◌}
use Rattle.store_model.specs.declared.refusal.Refusal.{Refusal}
use Rattle.store_model.specs.Trees.{Tree}
use Rattle.store_model.specs.Commands.{Command}
use Rattle.script_lines.specs.Sessions.{change_of}
use Rattle.page_store.specs.StagedState.{Follows-refl, Follows-trans}
use Rattle.staged_tree.specs.StagedTree.{IsListFor}
use Rattle.staged_tree.specs.Staging.{StagesChange}
use Rattle.staged_tree.proofs.GroupSteps.{staged_none, staged_more, staged_refused, staged_all}
use Rattle.staged_tree.proofs.group.stage_all.Goals as goal

pub stage_change-requires-clause-list : goal.stage_change-requires-clause-list
stage_change-requires-clause-list g c =
    let some = c.requires.list in
    let has = c.loop-index.invariant.staged some.0 some.1 in
    (some.0, (has.now, has.list))

pub returns-in-Err-clause-call : goal.returns-in-Err-clause-call
returns-in-Err-clause-call g c t list =
    let state = g.D.Disk.state in
    let p = c.args.params.now in
    let change = c.index-changes-index.result in
    let mid = c.loop-index.pairs in
    let new = c.stage_change.new.pairs in
    let stages = λ (now : Tree) (held : IsListFor state t now p mid).
    subst (λ (r : Result (Unit {0}) Refusal). StagesChange state t now p (change_of change) mid new (Ok r)) c.in-Err.is
    (subst (λ (command : Command). StagesChange state t now p command mid new (Ok c.in_ok-reply.field-0))
    c.command-command.ensures (c.in_ok-reply.ensures.call t now held)) in
    staged_refused state t p c.args.changes.now c.args.pairs.now c.loop-index.index change mid new
    c.loop-index-test.true c.index-changes-index.is c.loop-index.invariant.follows
    (c.loop-index.invariant.staged t list) c.in-Err.reply c.loop-index.invariant.faults stages

pub loop-index-preserved : goal.loop-index-preserved
loop-index-preserved g c =
    let state = g.D.Disk.state in
    let p = c.args.params.now in
    let before = c.loop-index.invariant in
    let change = c.index-changes-index.result in
    let old = c.args.pairs.now in
    let mid = c.loop-index.pairs in
    let new = c.stage_change.new.pairs in
    let stages = λ (t now : Tree) (held : IsListFor state t now p mid).
    subst (λ (r : Result (Unit {0}) Refusal). StagesChange state t now p (change_of change) mid new (Ok r))
    c.in_default.is
    (subst (λ (command : Command). StagesChange state t now p command mid new (Ok c.in_ok-reply.field-0))
    c.command-command.ensures (c.in_ok-reply.ensures.call t now held)) in
    let some = c.requires.list in
    let has = before.staged some.0 some.1 in
    record {
      follows = (
        Follows-trans state old.pages mid.pages new.pages before.follows.0 c.in_ok-reply.ensures.follows.0,
        c.in_ok-reply.ensures.follows.1 ∙ before.follows.1,
      );
      faults = (stages some.0 has.now has.list).faults ∙ before.faults;
      staged = λ t list. staged_more state t p c.args.changes.now old c.loop-index.index change mid new
          c.loop-index-test.true c.index-changes-index.is before.follows (before.staged t list)
          c.in_default.field-0 (stages t);
    }

pub returns-clause-call : goal.returns-clause-call
returns-clause-call g c t list =
    staged_all g.D.Disk.state t c.args.params.now c.args.changes.now c.args.pairs.now c.loop-index.index
    c.loop-index.pairs c.loop-index-test.false (c.loop-index.invariant.staged t list) c.loop-index.invariant.faults

pub loop-index-init : goal.loop-index-init
loop-index-init g c = record {
  follows = (
    Follows-refl g.D.Disk.state c.args.pairs.now.pages (g.met.D.Disk.sound c.args.pairs.now.pages.disk),
    refl,
  );
  faults = refl;
  staged = λ t list. staged_none g.D.Disk.state t c.args.params.now c.args.changes.now c.args.pairs.now list;
}
