use Rattle.std.proofs.Common.{refl}
use Rattle.store_model.proofs.PathsLemmas.{place_of_path, place_of_attribute, order_of_keys}
use Rattle.model_laws.proofs.laws.pairs.fields_order_as_paths.Goals as goal

pub returns-clause-order : goal.returns-clause-order
returns-clause-order c = order_of_keys

pub returns-clause-path : goal.returns-clause-path
returns-clause-path c = place_of_path

pub returns-clause-attribute : goal.returns-clause-attribute
returns-clause-attribute c = place_of_attribute

pub returns-clause-its_key : goal.returns-clause-its_key
returns-clause-its_key c p a = refl
