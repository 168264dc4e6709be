use Rattle.std.proofs.Common.{ap, ◌∙◌}
use Rattle.store_model.specs.Draws.{draw_of}
use Rattle.drawn_levels.proofs.LevelLemmas.{held_again, same_levels}
use Rattle.drawn_levels.proofs.known.KnownLevels.again.Goals as goal

pub invariant_of-self : goal.invariant_of-self
invariant_of-self c =
    let old = c.self.inside.params in
    let e = draw_of c.with_slots-self-inside.result in
    record {
      params = c.drawn_by-self-inside.ensures.valid;
      draw_is = c.drawn_by-self-inside.ensures.draw;
      kept_are = held_again (draw_of old) e c.self.inside.kept
          (λ key. ap (λ p. (draw_of p).level key) c.with_slots-self-inside.ensures ∙ same_levels old c.args.slots key)
          c.self.invariant.kept_are;
    }
