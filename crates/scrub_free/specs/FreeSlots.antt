-- What scrubbing writes of the slots of a table. A slot is free where its byte 0 is 0.
use Rattle.std.specs.Prelude.{◌≡◌, ℕ, ◌+◌, ◌==◌, ◌&&◌, not, ◌<◌, ◌≤◌, List, slice_index, Bool, false, if◌then◌else◌}
use Rattle.std.specs.List.{sum_by}
use Rattle.store_model.specs.Lists.{same_bytes, zeros, numbers_below}
use Rattle.store_model.specs.Parameters.{block_len, table_at}
use Rattle.store_model.specs.Images.{scrubbed_block}
use Rattle.gate_journal.specs.Places.{IsApart}
use Rattle.gate_journal.specs.Phases.{table_slot}

-- a free slot that is not zero
unfoldable pub is_unclean : List ℕ → Bool
is_unclean bytes = (slice_index bytes 0 == 0) && not (same_bytes bytes (zeros block_len))

-- the first n of these slots are clean
abbrev pub StandClean : (ℕ → List ℕ) → ℕ → Type 0
StandClean slot n = (i : ℕ) → i < n → is_unclean (slot i) ≡ false

-- the writes that scrub a slot
abbrev pub block_writes : List ℕ → ℕ
block_writes bytes = if is_unclean bytes then 1 else 0

-- the writes that scrub the first n of these slots
unfoldable pub scrub_writes : (ℕ → List ℕ) → ℕ → ℕ
scrub_writes slot n = sum_by (λ i. block_writes (slot i)) (numbers_below n)

-- a place that is not behind byte 0 of this slot, where that is free in the image
abbrev pub OutsideFreeSlot : ℕ → ℕ → List ℕ → ℕ → Type 0
OutsideFreeSlot slots slot image place = slice_index image (table_at slots slot) ≡ 0
    → IsApart (table_at slots slot + 1) 4095 place

-- nor of any
abbrev pub OutsideFree : ℕ → List ℕ → ℕ → Type 0
OutsideFree slots image place = (i : ℕ) → i < slots → OutsideFreeSlot slots i image place

-- the first n slots are those of the old image scrubbed, and the others as they were
pub record AreScrubbed (slots n : ℕ) (old image : List ℕ) : Type 0 where
  pub scrubbed : (i : ℕ) → i < n → table_slot slots image i ≡ scrubbed_block (table_slot slots old i)
  pub others : (i : ℕ) → n ≤ i → i < slots → table_slot slots image i ≡ table_slot slots old i
