use Rattle.store_model.proofs.PlacementLemmasOrder.{one_table_in_order, place_is_the_only_order}
use Rattle.store_model.proofs.PlacementLemmasTables.{one_ordered_table, ordered_table_is_place}
use Rattle.store_model.proofs.PlacementLemmasTables.{distinct_labels_of_table}
use Rattle.model_laws.proofs.laws.placement.order_makes_the_table_unique.Goals as goal

pub returns-clause-one_ordered_table : goal.returns-clause-one_ordered_table
returns-clause-one_ordered_table c = one_ordered_table

pub returns-clause-its_placement : goal.returns-clause-its_placement
returns-clause-its_placement c = ordered_table_is_place

pub returns-clause-distinct_labels : goal.returns-clause-distinct_labels
returns-clause-distinct_labels c = distinct_labels_of_table

pub returns-clause-one_table : goal.returns-clause-one_table
returns-clause-one_table c = one_table_in_order

pub returns-clause-the_placement : goal.returns-clause-the_placement
returns-clause-the_placement c = place_is_the_only_order
