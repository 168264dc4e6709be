-- The draw of an image, seen as that of the definitions.
use Rattle.std.specs.Prelude.{ℕ}
use Rattle.store_model.specs.Labels.{Label}
use Rattle.store_model.specs.Draws.{Draw, IsLawful}
use Rattle.seeded_draw.specs.declared.any.AnyDraw.{AnyDraw}
use Rattle.seeded_draw.specs.declared.any.AnyDraw.TheVariants.{Ruler, Sha256}
use Rattle.seeded_draw.specs.Drawn.{ruler_draw, sha256_draw, ruler_digest, sha256_digest}
use Rattle.seeded_draw.specs.Lawful.{ruler_is_lawful, sha256_is_lawful}

abbrev pub any_draw : AnyDraw → Draw
any_draw (Ruler d) = ruler_draw d.slots d.height
any_draw (Sha256 d) = sha256_draw d.seed d.slots d.height

abbrev pub any_digest : AnyDraw → Label → ℕ
any_digest (Ruler d) l = ruler_digest l
any_digest (Sha256 d) l = sha256_digest d.seed l

pub any_is_lawful : (d : AnyDraw) → IsLawful (any_draw d)
any_is_lawful (Ruler d) = ruler_is_lawful d.slots d.height d.some_slot d.some_level
any_is_lawful (Sha256 d) = sha256_is_lawful d.seed d.slots d.height d.some_slot d.some_level
