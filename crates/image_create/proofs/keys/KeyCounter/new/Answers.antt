use Rattle.store_model.specs.Draws.{draw_of}
use Rattle.image_create.proofs.keys.KeyCounter.new.Goals as goal

pub returns-clause-counted : goal.returns-clause-counted
returns-clause-counted c = c.new-2.ensures (draw_of c.args.params.now)
