use Rattle.std.proofs.Common.{rules}
use Rattle.script_lines.specs.Generated.{state_after}
use Rattle.script_lines.proofs.generator.Generator.new.Goals as goal

pub returns : goal.returns
unfolding state_after
returns c = search rules
