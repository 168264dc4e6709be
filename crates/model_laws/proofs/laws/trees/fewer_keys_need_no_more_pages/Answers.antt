use Rattle.store_model.proofs.TreesLemmasFewer.{pages_of_kept, pages_of_subset}
use Rattle.model_laws.proofs.laws.trees.fewer_keys_need_no_more_pages.Goals as goal

pub returns-clause-kept : goal.returns-clause-kept
returns-clause-kept c = pages_of_kept

pub returns-clause-subset : goal.returns-clause-subset
returns-clause-subset c = pages_of_subset
