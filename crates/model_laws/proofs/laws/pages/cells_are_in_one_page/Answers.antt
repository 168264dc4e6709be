use Rattle.store_model.proofs.PagesLemmas.{cells_of_level, cells_of_level_0}
use Rattle.model_laws.proofs.laws.pages.cells_are_in_one_page.Goals as goal

pub returns : goal.returns
returns c = record {
  level = cells_of_level;
  all_pairs = cells_of_level_0;
}
