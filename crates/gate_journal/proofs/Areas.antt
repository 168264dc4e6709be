-- How the areas of an image lie.
use Rattle.std.proofs.Common.{◌≡◌, ℕ, ◌+◌, ◌*◌, ◌/◌, ◌<◌, ◌≤◌, arith}
use Rattle.store_model.specs.Parameters.{mark_blocks, mark_at, shadow_at, table_at, image_len}
use Rattle.store_model.specs.Images.{journal_len}

-- where the mark, the shadow block and the table slot of slot i lie
pub record Areas (slots i : ℕ) : Type 0 where
  pub shadow_is : shadow_at slots i ≡ shadow_at slots 0 + 4096 * i
  pub table_is : table_at slots i ≡ table_at slots 0 + 4096 * i
  pub mark_end : mark_at i + 1 ≤ shadow_at slots 0
  pub shadow_end : shadow_at slots i + 4096 ≤ table_at slots 0
  pub table_end : table_at slots i + 4096 ≤ image_len slots

pub areas : (slots i : ℕ) → i < slots → Areas slots i
unfolding mark_blocks shadow_at table_at image_len
areas slots i below = record {
  shadow_is = omega arith;
  table_is = omega arith;
  mark_end = omega arith;
  shadow_end = omega arith;
  table_end = omega arith;
}

-- the journal lies between the header and the table
pub journal_end : (slots : ℕ) → 4096 + journal_len slots ≡ table_at slots 0
unfolding mark_blocks table_at journal_len
journal_end slots = omega arith

pub marks_end : (slots : ℕ) → 8192 + slots + 1 ≤ shadow_at slots 0
unfolding mark_blocks shadow_at
marks_end slots = omega arith

pub shadow_end : (slots : ℕ) → shadow_at slots 0 + 4096 * slots ≡ table_at slots 0
unfolding shadow_at table_at
shadow_end slots = omega arith

-- the table ends the image
pub table_end : (slots : ℕ) → image_len slots ≡ table_at slots 0 + 4096 * slots
unfolding table_at image_len
table_end slots = omega arith

-- the blocks before the table
pub table_blocks : (slots : ℕ) → 4096 * (table_at slots 0 / 4096) ≡ table_at slots 0
unfolding table_at
table_blocks slots = omega arith

-- the header, the gate block, and the blocks of marks and shadow
pub blocks_before_table : (slots : ℕ) → table_at slots 0 ≡ 4096 * (2 + (mark_blocks slots + slots))
unfolding table_at
blocks_before_table slots = omega arith

-- an image is whole blocks
pub image_blocks : (slots : ℕ) → 4096 * (image_len slots / 4096) ≡ image_len slots
unfolding image_len
image_blocks slots = omega arith
