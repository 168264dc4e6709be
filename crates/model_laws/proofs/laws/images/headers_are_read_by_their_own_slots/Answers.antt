use Rattle.model_laws.proofs.HeadersLemmas.{same_reading, read_alone, read_by_slots}
use Rattle.model_laws.proofs.laws.images.headers_are_read_by_their_own_slots.Goals as goal

pub returns-clause-alike : goal.returns-clause-alike
returns-clause-alike c = same_reading

pub returns-clause-same : goal.returns-clause-same
returns-clause-same c image p is long = (read_alone image p is long, read_by_slots image p is long)
