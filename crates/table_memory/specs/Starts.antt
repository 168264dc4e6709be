-- Starts that were drawn, kept in memory.
use Rattle.std.specs.Prelude.{◌≡◌, ℕ, List, Some, slice_get}
use Rattle.store_model.specs.Labels.{Label}
use Rattle.store_model.specs.Draws.{Draw}

-- labels, each with its start
abbrev pub Starts : Type 0
Starts = List (Label × ℕ)

-- this is the start that is kept of the label
pub record IsKeptStart (kept : Starts) (l : Label) (start : ℕ) : Type 0 where
  pub place : ℕ
  pub there : slice_get kept place ≡ Some (l, start)

-- each start is the one that the draw has for its label
pub record AreStarts (d : Draw) (kept : Starts) : Type 0 where
  pub drawn : (i : ℕ) (start : Label × ℕ) → slice_get kept i ≡ Some start → start.1 ≡ d.start start.0
