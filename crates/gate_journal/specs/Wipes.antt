-- What a wipe does to a disk, one phase after another.
use Rattle.std.specs.Prelude.{◌≡◌, ◌⊎◌, ℕ, ◌+◌, ◌-◌, ◌/◌, List, length, slice_index, Result, OnOk}
use Rattle.store_model.specs.Lists.{zeros}
use Rattle.store_model.specs.Parameters.{block_len}
use Rattle.disk_model.specs.DiskState.{DiskState, IsDurable}
use Rattle.disk_model.specs.DiskCalls.{LeavesOnly}
use Rattle.gate_journal.specs.Places.{IsApart, SameAt}

pub data WipePhase : Type 0 where
  -- the first byte is written
  Unnaming : WipePhase
  -- the first byte is zero; all others are written
  Zeroing : WipePhase

-- an image that a crash in this phase may leave of this one
abbrev pub InWipePhase : List ℕ → WipePhase → List ℕ → Type 0
InWipePhase old Unnaming image = SameAt (IsApart 0 1) old image
InWipePhase old Zeroing image = (length image ≡ length old) × (slice_index image 0 ≡ 0)

-- an image on the way of a wipe: the old bytes with any first byte, or one whose first byte is zero
abbrev pub IsWiping : List ℕ → List ℕ → Type 0
IsWiping old image = InWipePhase old Unnaming image ⊎ InWipePhase old Zeroing image

-- A wipe. What the disk then reads, after a fault too, is on the way of the wipe. Where nothing was pending, so is
-- each image that a crash at any moment may leave. After Ok every byte is zero and durable.
pub record Wipes {T E : Type 0} (old new : DiskState) (result : Result T E) : Type 0 where
  pub reads : IsWiping old.bytes new.bytes
  pub crash : IsDurable old → LeavesOnly old new (IsWiping old.bytes)
  pub durable : OnOk result (IsDurable new)
  pub done : OnOk result (new.bytes ≡ zeros (length old.bytes))

-- how many blocks so many bytes take, the last one perhaps not whole
abbrev pub block_count : ℕ → ℕ
block_count size = (size + (block_len - 1)) / block_len
