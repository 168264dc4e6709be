use Rattle.script_lines.specs.Parsing.{command_of}
use Rattle.staged_tree.proofs.GuardedSteps.{looked_within, change_passed, change_due}
use Rattle.staged_tree.proofs.streamed.stage_guarded.Goals as goal

pub returns-then-not-branch-clause-call : goal.returns-then-not-branch-clause-call
returns-then-not-branch-clause-call g c t now within =
    change_passed g.D.Disk.state t now c.args.params.now c.args.pairs.now within c.requires.runs c.is_due.new.pairs
    c.is_due.ensures.follows c.args.when (command_of c.args.command.now) c.reveal.ensures
    c.path_of.result c.path_of.ensures c.in_ok-is_due.field-0
    c.in_ok-is_due.ensures.call c.if-not-branch.true tt

pub stage_within-requires-clause-list : goal.stage_within-requires-clause-list
stage_within-requires-clause-list g c = let some = c.requires.list
    in (
      some.0,
      (
        some.1.0,
        looked_within g.D.Disk.state some.0 some.1.0 c.args.params.now c.args.pairs.now some.1.1
            c.requires.runs c.is_due.new.pairs c.is_due.ensures.follows c.in_ok-is_due.ensures.call.keeps,
      ),
    )

pub returns-clause-call : goal.returns-clause-call
returns-clause-call g c t now within =
    let state = g.D.Disk.state in
    let look = c.in_ok-is_due.ensures.call in
    let mid = c.is_due.new.pairs in
    change_due state t now c.args.params.now c.args.pairs.now within c.requires.runs mid
    c.is_due.ensures.follows c.args.when (command_of c.args.command.now) c.reveal.ensures
    c.path_of.result c.path_of.ensures c.in_ok-is_due.field-0
    look c.if-not-branch.false c.stage_within.new.pairs c.stage_within.ensures.follows c.stage_within.result
    (c.stage_within.ensures.call t now (looked_within state t now c.args.params.now c.args.pairs.now within
    c.requires.runs mid c.is_due.ensures.follows look.keeps))
