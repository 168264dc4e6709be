use Rattle.store_model.proofs.ImagesLemmas.{length-recovered, recovered-recovered}
use Rattle.model_laws.proofs.laws.images.recovery_twice_is_recovery_once.Goals as goal

pub returns-clause-length : goal.returns-clause-length
returns-clause-length c = length-recovered

pub returns-clause-same : goal.returns-clause-same
returns-clause-same c = recovered-recovered
