use Rattle.model_laws.proofs.PlacementLemmasTrees.{IsOrderedTable-tree, one_slot_in_tree, only_order_of_tree}
use Rattle.model_laws.proofs.laws.placement.tree_has_one_table.Goals as goal

pub returns-clause-ordered : goal.returns-clause-ordered
returns-clause-ordered c = IsOrderedTable-tree

pub returns-clause-one_slot_each : goal.returns-clause-one_slot_each
returns-clause-one_slot_each c = one_slot_in_tree

pub returns-clause-only_order : goal.returns-clause-only_order
returns-clause-only_order c = only_order_of_tree
