use Rattle.synced_trees.proofs.Reached.{synced_once, synced_whole}
use Rattle.synced_trees.proofs.laws.one_tree_holds_what_is_told.Goals as goal

pub returns : goal.returns
returns c = record { once = synced_once; whole = synced_whole }
