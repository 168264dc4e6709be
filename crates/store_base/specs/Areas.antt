-- How the areas of an image lie.
use Rattle.std.specs.Prelude.{◌≡◌, ℕ, ◌+◌, ◌*◌, ◌<◌, ◌≤◌}
use Rattle.store_model.specs.Parameters.{block_len, mark_blocks, gate_at, marks_at, mark_at, shadow_at, table_at}
use Rattle.store_model.specs.Parameters.{image_len}

-- The header begins at 0. Each area ends where the next one begins, and the table ends where the image does.
pub record AreasFill (slots : ℕ) : Type 0 where
  -- behind the header's block the gate's, and behind that the marks
  pub header : 0 + block_len ≡ gate_at
  pub gate : gate_at + block_len ≡ marks_at
  -- the marks, of which there is one for each slot and one more, lie in their own whole blocks
  pub first_mark : mark_at 0 ≡ marks_at
  pub marks : (i : ℕ) → i ≤ slots → mark_at i < marks_at + block_len * mark_blocks slots
  pub marks_end : marks_at + block_len * mark_blocks slots ≡ shadow_at slots 0
  -- a shadow block for each slot, one behind the other, and behind them the table
  pub shadow : (i : ℕ) → shadow_at slots i + block_len ≡ shadow_at slots (i + 1)
  pub shadow_end : shadow_at slots slots ≡ table_at slots 0
  -- the slots, one behind the other, to the end
  pub table : (i : ℕ) → table_at slots i + block_len ≡ table_at slots (i + 1)
  pub table_end : table_at slots slots ≡ image_len slots
