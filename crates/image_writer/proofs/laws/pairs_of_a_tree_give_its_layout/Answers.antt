use Rattle.std.proofs.Common.{refl}
use Rattle.store_model.specs.Pages.{pages}
use Rattle.store_model.specs.Images.{layout}
use Rattle.image_writer.specs.Sealing.{image_of}
use Rattle.image_writer.proofs.laws.pairs_of_a_tree_give_its_layout.Goals as goal

pub returns : goal.returns
unfolding layout pages image_of
returns c = λ t p. refl
