use Rattle.store_model.proofs.PairsLemmas.{is_sorted-pairs, rising_keys}
use Rattle.model_laws.proofs.laws.pairs.pairs_are_sorted.Goals as goal

pub returns : goal.returns
returns c = record {
  finite_map = is_sorted-pairs;
  keys_rise = rising_keys;
}
