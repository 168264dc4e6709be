use Rattle.store_model.proofs.ImagesLemmas.{viewed_header-at_rest}
use Rattle.model_laws.proofs.HeadersLemmas.{read_unmarked}
use Rattle.model_laws.proofs.laws.images.headers_are_read_as_they_stand.Goals as goal

pub returns-clause-clear : goal.returns-clause-clear
returns-clause-clear c = viewed_header-at_rest

pub returns-clause-unmarked : goal.returns-clause-unmarked
returns-clause-unmarked c = read_unmarked
