use Rattle.std.proofs.Common.{◌+◌, ◌-◌, ◌*◌, length}
use Rattle.script_lines.proofs.Search.{Searches}
use Rattle.script_lines.proofs.lines.LineReader.next_line.Given as goal

abbrev pub invariant-loop-place : goal.invariant-loop-place
invariant-loop-place g l = Searches g.R.Source.state l.fn.self l.self l.scanned

abbrev pub decreases-loop-place : goal.decreases-loop-place
decreases-loop-place g l = 2 * (l.self.limit - l.self.taken) + length l.self.held
