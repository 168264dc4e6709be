use Rattle.store_model.proofs.ImagesLemmasScrubbed.{take-recovered, take-scrubbed, viewed_header-recovered}
use Rattle.model_laws.proofs.laws.images.headers_stay_as_they_are_read.Goals as goal

pub returns-clause-recovered : goal.returns-clause-recovered
returns-clause-recovered c = take-recovered

pub returns-clause-scrubbed : goal.returns-clause-scrubbed
returns-clause-scrubbed c = take-scrubbed

pub returns-clause-read : goal.returns-clause-read
returns-clause-read c = viewed_header-recovered
