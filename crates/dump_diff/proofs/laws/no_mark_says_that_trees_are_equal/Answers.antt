use Rattle.dump_diff.proofs.EqualTrees.{no_mark}
use Rattle.dump_diff.proofs.laws.no_mark_says_that_trees_are_equal.Goals as goal

pub returns : goal.returns
returns c = no_mark
