use Rattle.model_laws.proofs.AttributesLemmas.{kept_by_make, kept_by_write, kept_by_cut}
use Rattle.model_laws.proofs.laws.attributes.nodes_keep_attributes.Goals as goal

pub returns-clause-make : goal.returns-clause-make
returns-clause-make c = kept_by_make

pub returns-clause-write : goal.returns-clause-write
returns-clause-write c = kept_by_write

pub returns-clause-cut : goal.returns-clause-cut
returns-clause-cut c = kept_by_cut
