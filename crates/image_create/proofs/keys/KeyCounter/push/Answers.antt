use Rattle.std.proofs.Common.{arith}
use Rattle.store_model.specs.Draws.{draw_of}
use Rattle.image_create.proofs.KeyLemmas.{draw_height}
use Rattle.image_create.proofs.keys.KeyCounter.push.Goals as goal

pub returns-clause-counts : goal.returns-clause-counts
returns-clause-counts c =
    let p = c.args.self.now.levels in
    let height = draw_height p in
    let valid = c.draw-level.ensures.valid in
    let below = c.draw-level.ensures.below in
    record {
      levels = c.draw-level.ensures.same;
      counted = λ keys counted. c.add_at.ensures.counted (draw_of p) keys c.args.key.now
          (omega (arith, height, valid.height_in_range)) (omega (arith, height, below)) c.draw-level.ensures.value
          counted;
    }
