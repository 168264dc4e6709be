use Rattle.layout_scratch.proofs.AllLevels.{CountsLevels}
use Rattle.layout_scratch.proofs.count.page_count.Given as goal

abbrev pub invariant-loop-level : goal.invariant-loop-level
invariant-loop-level l = CountsLevels l.ranked l.count l.level
