use Rattle.std.proofs.Common.{◌-◌, length}
use Rattle.layout_scratch.proofs.LevelCounts.{CountsLevel}
use Rattle.layout_scratch.proofs.count.level_page_count.Given as goal

abbrev pub invariant-loop-start : goal.invariant-loop-start
invariant-loop-start l = CountsLevel l.level l.ranked l.count l.start

abbrev pub decreases-loop-start : goal.decreases-loop-start
decreases-loop-start l = length l.ranked - l.start
