use Rattle.std.proofs.Common.{take}
use Rattle.std.specs.List.{flat_map}
use Rattle.dump_diff.specs.Differences.{marks_of}
use Rattle.dump_diff.specs.Scripts.{AreRising, WroteText, cut_commands, commands_text}
use Rattle.dump_diff.proofs.script.write_cuts.Given as goal

-- the lines of the paths so far were written
abbrev pub invariant-loop-difference : goal.invariant-loop-difference
invariant-loop-difference g l =
    AreRising l.found
    → WroteText (g.W.Sink.state l.fn.sink) (g.W.Sink.state l.sink)
    (commands_text (flat_map (cut_commands (marks_of l.found.paths.items))
    (take l.difference-index l.found.paths.items)))
