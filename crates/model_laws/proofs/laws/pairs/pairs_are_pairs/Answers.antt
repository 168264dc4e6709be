use Rattle.store_model.proofs.PairsLemmas.{pairs_are_pairs}
use Rattle.model_laws.proofs.laws.pairs.pairs_are_pairs.Goals as goal

pub returns : goal.returns
returns c = pairs_are_pairs
