use Rattle.std.proofs.Common.{◌-◌}
use Rattle.script_lines.proofs.Search.{PassesLong}
use Rattle.script_lines.proofs.lines.LineReader.pass_long.Given as goal

abbrev pub invariant-loop-self : goal.invariant-loop-self
invariant-loop-self g l = PassesLong g.R.Source.state l.initial.self l.self

abbrev pub decreases-loop-self : goal.decreases-loop-self
decreases-loop-self g l = l.self.limit - l.self.taken
