-- What is known of levels under parameters.
use Rattle.std.specs.Prelude.{◌≡◌}
use Rattle.store_model.specs.Parameters.{Parameters, IsParameters}
use Rattle.store_model.specs.Draws.{draw_of}
use Rattle.seeded_draw.specs.AnyDrawn.{any_draw}
use Rattle.seeded_draw.specs.declared.any.AnyDraw.{AnyDraw}
use Rattle.drawn_levels.specs.declared.kept.KeptLevels.{KeptLevels}
use Rattle.drawn_levels.specs.Kept.{HoldsLevels}

-- the draw is that of the parameters, and the levels that are kept are those that it draws
pub record Knows (p : Parameters) (draw : AnyDraw) (kept : KeptLevels) : Type 0 where
  pub params : IsParameters p
  pub draw_is : any_draw draw ≡ draw_of p
  pub kept_are : HoldsLevels (draw_of p) kept
