-- The draws are lawful.
use Rattle.std.proofs.Common.{ℕ, ◌<◌, ◌≤◌, List, Bool, true, false, arith}
use Rattle.std.specs.Prelude.{if◌then◌else◌, ◌==◌}
use Rattle.store_model.specs.Draws.{IsLawful, ruler_start, ruler_level, key_block, start_of_digest, level_of_digest}
use Rattle.store_model.specs.Draws.{sha256_start, sha256_level}
use Rattle.seeded_draw.specs.Drawn.{ruler_draw, sha256_draw}

below_by : (b : Bool) (x y h : ℕ) → x < h → y < h → (if b then x else y) < h
below_by true x y h p q = p
below_by false x y h p q = q

pub ruler_is_lawful : (slots height : ℕ) → 1 ≤ slots → 1 ≤ height → IsLawful (ruler_draw slots height)
unfolding ruler_start ruler_level
ruler_is_lawful slots height some_slot some_level = record {
  start_in_range = λ l. omega arith;
  level_in_range = λ k. below_by (key_block k == 0) _ _ height (omega arith) (omega arith);
}

pub sha256_is_lawful : (seed : List ℕ) (slots height : ℕ) → 1 ≤ slots → 1 ≤ height
    → IsLawful (sha256_draw seed slots height)
unfolding sha256_start sha256_level start_of_digest level_of_digest
sha256_is_lawful seed slots height some_slot some_level = record {
  start_in_range = λ l. omega arith;
  level_in_range = λ k. omega arith;
}
