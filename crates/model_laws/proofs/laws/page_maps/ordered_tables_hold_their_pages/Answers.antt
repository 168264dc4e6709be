use Rattle.store_model.proofs.PageMapsLemmas.{HoldsPages-slots_of, table_of_held_map, HoldsPages-table_of, one_held_map}
use Rattle.store_model.proofs.PageMapsLemmas.{found_stands, standing_found, HoldsPages-lookups, HoldsPages-place}
use Rattle.store_model.proofs.PageMapsLemmas.{HoldsPages-tree}
use Rattle.model_laws.proofs.laws.page_maps.ordered_tables_hold_their_pages.Goals as goal

pub returns-clause-held : goal.returns-clause-held
returns-clause-held c = HoldsPages-slots_of

pub returns-clause-table : goal.returns-clause-table
returns-clause-table c = table_of_held_map

pub returns-clause-held_in_table : goal.returns-clause-held_in_table
returns-clause-held_in_table c = HoldsPages-table_of

pub returns-clause-one_map : goal.returns-clause-one_map
returns-clause-one_map c = one_held_map

pub returns-clause-found_stands : goal.returns-clause-found_stands
returns-clause-found_stands c = found_stands

pub returns-clause-standing_found : goal.returns-clause-standing_found
returns-clause-standing_found c = standing_found

pub returns-clause-by_lookups : goal.returns-clause-by_lookups
returns-clause-by_lookups c = HoldsPages-lookups

pub returns-clause-placed : goal.returns-clause-placed
returns-clause-placed c = HoldsPages-place

pub returns-clause-tree : goal.returns-clause-tree
returns-clause-tree c = HoldsPages-tree
