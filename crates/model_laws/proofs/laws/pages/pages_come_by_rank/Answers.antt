use Rattle.store_model.proofs.PagesLemmasSizes.{tree_pages_by_rank}
use Rattle.model_laws.proofs.laws.pages.pages_come_by_rank.Goals as goal

pub returns : goal.returns
returns c = tree_pages_by_rank
