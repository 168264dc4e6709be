use Rattle.std.proofs.Common.{◌∙◌}
use Rattle.dump_diff.proofs.Written.{above_is}
use Rattle.synced_trees.proofs.plan.above.Goals as goal

pub returns : goal.returns
returns c = c.unwrap_or.ensures
    ∙ above_is c.parent.result c.args.path.now c.parent.ensures.none.0 c.parent.ensures.value
