use Rattle.store_model.proofs.PagesLemmasSizes.{pages_are_pages, tree_pages_are_pages}
use Rattle.model_laws.proofs.laws.pages.pages_are_pages.Goals as goal

pub returns : goal.returns
returns c = record {
  of_pairs = λ d s low pairs few. pages_are_pages d s low (record { pairs = pairs; few = few });
  of_tree = tree_pages_are_pages;
}
