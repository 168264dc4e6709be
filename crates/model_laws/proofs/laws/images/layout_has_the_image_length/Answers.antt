use Rattle.store_model.proofs.ImagesLemmas.{length-layout}
use Rattle.model_laws.proofs.laws.images.layout_has_the_image_length.Goals as goal

pub returns : goal.returns
returns c = length-layout
