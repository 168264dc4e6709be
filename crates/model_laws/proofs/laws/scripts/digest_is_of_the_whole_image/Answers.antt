use Rattle.store_model.proofs.ScriptsLemmas.{digest_of_layout}
use Rattle.model_laws.proofs.laws.scripts.digest_is_of_the_whole_image.Goals as goal

pub returns : goal.returns
returns c = digest_of_layout
