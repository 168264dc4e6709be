use Rattle.store_model.proofs.PlacementLemmasOrder.{IsInOrder-place}
use Rattle.store_model.proofs.PlacementLemmasTables.{IsOrderedTable-place}
use Rattle.model_laws.proofs.laws.placement.placement_is_in_order.Goals as goal

pub returns-clause-in_order : goal.returns-clause-in_order
returns-clause-in_order c = IsInOrder-place

pub returns-clause-ordered_table : goal.returns-clause-ordered_table
returns-clause-ordered_table c = IsOrderedTable-place
