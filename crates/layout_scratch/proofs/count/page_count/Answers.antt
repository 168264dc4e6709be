use Rattle.std.proofs.Common.{arith}
use Rattle.layout_scratch.proofs.AllLevels.{levels_none, levels_more}
use Rattle.layout_scratch.proofs.count.page_count.Goals as goal

pub loop-level-init : goal.loop-level-init
loop-level-init c = levels_none c.args.ranked.now

pub loop-level-preserved : goal.loop-level-preserved
loop-level-preserved c =
    levels_more c.args.ranked.now c.loop-level.count c.loop-level.level c.level_page_count-count.result
    c.loop-level.invariant (omega arith) c.level_page_count-count.ensures.value
