use Rattle.tree_changes.proofs.Standings.{one_tree}
use Rattle.tree_changes.proofs.laws.a_standing_tells_its_tree.Goals as goal

pub returns : goal.returns
returns c = one_tree
