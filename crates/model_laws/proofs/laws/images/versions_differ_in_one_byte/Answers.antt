use Rattle.store_model.proofs.ImagesLemmas.{header-with_version, viewed_header-upgraded}
use Rattle.model_laws.proofs.laws.images.versions_differ_in_one_byte.Goals as goal

pub returns-clause-written : goal.returns-clause-written
returns-clause-written c = header-with_version

pub returns-clause-read : goal.returns-clause-read
returns-clause-read c = viewed_header-upgraded
