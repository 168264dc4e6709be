use Rattle.store_model.proofs.PlacementLemmas.{length-place, IsPermutation-place, exactly_one_slot}
use Rattle.model_laws.proofs.laws.placement.placement_keeps_every_page_once.Goals as goal

pub returns-clause-slots : goal.returns-clause-slots
returns-clause-slots c = length-place

pub returns-clause-pages : goal.returns-clause-pages
returns-clause-pages c = IsPermutation-place

pub returns-clause-one_slot_each : goal.returns-clause-one_slot_each
returns-clause-one_slot_each c = exactly_one_slot
