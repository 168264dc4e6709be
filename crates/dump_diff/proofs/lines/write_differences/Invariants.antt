use Rattle.std.proofs.Common.{take}
use Rattle.std.specs.List.{flat_map}
use Rattle.dump_diff.specs.Scripts.{WroteText, difference_line}
use Rattle.dump_diff.proofs.lines.write_differences.Given as goal

-- the lines of the paths so far were written
abbrev pub invariant-loop-difference : goal.invariant-loop-difference
invariant-loop-difference g l = WroteText (g.W.Sink.state l.fn.sink) (g.W.Sink.state l.sink)
    (flat_map difference_line (take l.difference-index l.found.paths.items))
