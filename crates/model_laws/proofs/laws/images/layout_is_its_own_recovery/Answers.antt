use Rattle.store_model.proofs.ImagesLemmas.{recovered-layout, Represents-layout, Represents-recovered}
use Rattle.model_laws.proofs.laws.images.layout_is_its_own_recovery.Goals as goal

pub returns-clause-recovered : goal.returns-clause-recovered
returns-clause-recovered c = recovered-layout

pub returns-clause-represents : goal.returns-clause-represents
returns-clause-represents c = Represents-layout

pub returns-clause-represented : goal.returns-clause-represented
returns-clause-represented c = Represents-recovered
