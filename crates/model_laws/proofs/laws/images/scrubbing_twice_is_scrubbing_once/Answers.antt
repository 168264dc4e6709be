use Rattle.store_model.proofs.ImagesLemmasScrubbed.{scrubbed_slot-zero, scrubbed_slot-kept, length-scrubbed}
use Rattle.store_model.proofs.ImagesLemmasScrubbed.{scrubbed-layout, scrubbed-scrubbed, scrubbed-recovered}
use Rattle.store_model.proofs.ImagesLemmasScrubbed.{recovered-scrubbed}
use Rattle.model_laws.proofs.laws.images.scrubbing_twice_is_scrubbing_once.Goals as goal

pub returns-clause-zero : goal.returns-clause-zero
returns-clause-zero c = scrubbed_slot-zero

pub returns-clause-kept : goal.returns-clause-kept
returns-clause-kept c = scrubbed_slot-kept

pub returns-clause-length : goal.returns-clause-length
returns-clause-length c = length-scrubbed

pub returns-clause-layout : goal.returns-clause-layout
returns-clause-layout c = scrubbed-layout

pub returns-clause-twice : goal.returns-clause-twice
returns-clause-twice c = scrubbed-scrubbed

pub returns-clause-of_recovered : goal.returns-clause-of_recovered
returns-clause-of_recovered c = scrubbed-recovered

pub returns-clause-recovered : goal.returns-clause-recovered
returns-clause-recovered c = recovered-scrubbed
