use Rattle.std.proofs.Common.{sym, ◌∙◌}
use Rattle.script_lines.specs.Parsing.{command_of}
use Rattle.staged_tree.proofs.GroupSteps.{version_lacks, change_staged}
use Rattle.staged_tree.proofs.ListSteps.{room_at}
use Rattle.staged_tree.proofs.group.stage_roomy.Goals as goal

pub returns-then-lacks_version-clause-call : goal.returns-then-lacks_version-clause-call
returns-then-lacks_version-clause-call g c t now list =
    version_lacks g.D.Disk.state t now c.args.params.now (command_of c.args.command.now) c.args.pairs.now list
    c.requires.runs (sym c.lacks_version.ensures ∙ c.if-lacks_version.true)

pub change-requires-clause-room : goal.change-requires-clause-room
change-requires-clause-room g c = let some = c.requires.list
    in room_at g.D.Disk.state some.0 some.1.0 c.args.params.now c.args.pairs.now some.1.1.over c.requires.runs
    some.1.1.few

pub returns-clause-call : goal.returns-clause-call
returns-clause-call g c t now list =
    change_staged g.D.Disk.state t now c.args.params.now (command_of c.args.command.now) c.args.pairs.now list
    c.requires.runs c.reveal.ensures (sym c.lacks_version.ensures ∙ c.if-lacks_version.false)
    c.version.result c.version.ensures.value c.change.new.pairs c.change.ensures.follows
    c.change.result c.change.ensures.call
