use Rattle.std.proofs.Common.{refl}
use Rattle.image_extract.proofs.Asking.{asks_all}
use Rattle.image_extract.proofs.laws.no_paths_and_the_root_ask_for_all.Goals as goal

pub returns-clause-none : goal.returns-clause-none
returns-clause-none c = λ t. refl

pub returns-clause-root : goal.returns-clause-root
returns-clause-root c = asks_all
