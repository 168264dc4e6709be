use Rattle.model_laws.proofs.AttributesLemmas.{unset_needs_no_more, unset_not_full}
use Rattle.model_laws.proofs.laws.attributes.unset_is_never_full.Goals as goal

pub returns-clause-pages : goal.returns-clause-pages
returns-clause-pages c = unset_needs_no_more

pub returns-clause-reply : goal.returns-clause-reply
returns-clause-reply c = unset_not_full
