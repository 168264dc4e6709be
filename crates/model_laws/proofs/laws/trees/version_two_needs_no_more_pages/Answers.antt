use Rattle.store_model.proofs.TreesLemmasUpgrade.{page_count-upgraded, Fits-upgraded}
use Rattle.model_laws.proofs.laws.trees.version_two_needs_no_more_pages.Goals as goal

pub returns-clause-pages : goal.returns-clause-pages
returns-clause-pages c = page_count-upgraded

pub returns-clause-fits : goal.returns-clause-fits
returns-clause-fits c = Fits-upgraded
