use Rattle.store_model.specs.Draws.{draw_of}
use Rattle.drawn_levels.proofs.known.KnownLevels.new.Goals as goal

pub invariant_of-result : goal.invariant_of-result
invariant_of-result c = record {
  params = c.drawn_by.ensures.valid;
  draw_is = c.drawn_by.ensures.draw;
  kept_are = c.new-2.ensures (draw_of c.args.params.now);
}
