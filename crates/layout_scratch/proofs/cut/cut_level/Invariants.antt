use Rattle.std.proofs.Common.{◌-◌, length}
use Rattle.layout_scratch.proofs.LevelPages.{CutsLevel}
use Rattle.layout_scratch.proofs.cut.cut_level.Given as goal

abbrev pub invariant-loop-start : goal.invariant-loop-start
invariant-loop-start l = CutsLevel l.level l.ranked l.fn.pages l.pages l.start

abbrev pub decreases-loop-start : goal.decreases-loop-start
decreases-loop-start l = length l.ranked - l.start
