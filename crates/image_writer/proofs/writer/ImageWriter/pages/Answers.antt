use Rattle.store_model.specs.Draws.{draw_of}
use Rattle.image_writer.proofs.writer.ImageWriter.pages.Goals as goal

pub returns : goal.returns
returns c = λ p s counts. c.pages.ensures (draw_of p) s counts
