use Rattle.store_model.proofs.ImagesLemmasScrubbed.{slot_of_recovered, slot_of_scrubbed}
use Rattle.model_laws.proofs.laws.images.slots_stand_in_their_places.Goals as goal

pub returns-clause-recovered : goal.returns-clause-recovered
returns-clause-recovered c = slot_of_recovered

pub returns-clause-scrubbed : goal.returns-clause-scrubbed
returns-clause-scrubbed c = slot_of_scrubbed
