use Rattle.std.proofs.Common.{take, Ok}
use Rattle.box_calls.specs.Marks.{PutsLines, marks_text}
use Rattle.box_calls.proofs.marks.put_lines.Given as goal

-- the lines of the first ones were put
abbrev pub invariant-loop-difference : goal.invariant-loop-difference
invariant-loop-difference g l = PutsLines (g.W.Sink.state l.fn.sink) (g.W.Sink.state l.sink)
    (marks_text l.form (take l.difference-index l.found)) (Ok tt)
