use Rattle.store_model.proofs.PagesLemmasOrder.{rising_labels, distinct_labels}
use Rattle.store_model.proofs.PagesLemmasSizes.{keyed, rising_tree_labels, distinct_tree_labels}
use Rattle.model_laws.proofs.laws.pages.labels_are_distinct.Goals as goal

pub returns : goal.returns
returns c = record {
  rise = λ d s pairs few. rising_labels d s (keyed s (record { pairs = pairs; few = few }));
  distinct = λ d s pairs few. distinct_labels d s (keyed s (record { pairs = pairs; few = few }));
  tree_rise = rising_tree_labels;
  tree_distinct = distinct_tree_labels;
}
