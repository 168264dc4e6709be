-- The draws of an image are lawful.
use Rattle.std.proofs.Common.{ℕ, ◌-◌, ◌<◌, ◌≤◌, min, List, Bool, true, false, ◌==◌, if◌then◌else◌, arith}
use Rattle.store_model.specs.declared.draw_kind.DrawKind.{DrawKind}
use Rattle.store_model.specs.declared.draw_kind.DrawKind.TheVariants.{Ruler, Sha256}
use Rattle.store_model.specs.Parameters.{Parameters, IsParameters}
use Rattle.store_model.specs.Labels.{Label}
use Rattle.store_model.specs.Draws.{IsLawful, draw_of, start_by, level_by, ruler_start, ruler_level, start_of_digest}
use Rattle.store_model.specs.Draws.{level_of_digest, sha256_start, sha256_level, key_block}

-- a start lies in the table
start_by-lt : (kind : DrawKind) (p : Parameters) (l : Label) → 1 ≤ p.slots → start_by kind p l < p.slots
unfolding ruler_start sha256_start start_of_digest
start_by-lt Ruler p l some = omega arith
start_by-lt Sha256 p l some = omega arith

-- a number that is cut off below the height lies below it
picked-lt : (b : Bool) (n height : ℕ) → 1 ≤ height → (if b then min n (height - 1) else 0) < height
picked-lt true n height some = omega arith
picked-lt false n height some = omega arith

-- a level lies below the height
level_by-lt : (kind : DrawKind) (p : Parameters) (k : List ℕ) → 1 ≤ p.height → level_by kind p k < p.height
unfolding ruler_level sha256_level level_of_digest
level_by-lt Ruler p k some = picked-lt (key_block k == 0) _ p.height some
level_by-lt Sha256 p k some = omega arith

-- the draw of parameters in range is lawful
pub IsLawful-draw_of : (p : Parameters) → IsParameters p → IsLawful (draw_of p)
unfolding draw_of
IsLawful-draw_of p is = record {
  start_in_range = λ l. start_by-lt p.kind p l is.some_slot;
  level_in_range = λ k. level_by-lt p.kind p k is.some_level;
}
