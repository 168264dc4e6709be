-- What a scrub does to a disk.
use Rattle.std.specs.Prelude.{◌≡◌, ◌⊎◌, ℕ, ◌+◌, List, length, Result, OnOk}
use Rattle.store_model.specs.Images.{recovered_slot, scrubbed}
use Rattle.disk_model.specs.DiskState.{DiskState, IsDurable}
use Rattle.disk_model.specs.DiskCalls.{LeavesOnly}
use Rattle.gate_journal.specs.Costs.{opening_writes, opening_syncs, MadeAtMost}
use Rattle.gate_journal.specs.Places.{Made}
use Rattle.scrub_free.specs.FreeSlots.{scrub_writes}

-- the image is as long as the other, and scrubbing leaves the same of it
pub record ScrubsAs (slots : ℕ) (old image : List ℕ) : Type 0 where
  pub same_length : length image ≡ length old
  pub scrubs : scrubbed slots image ≡ scrubbed slots old

-- A disk is scrubbed, with writes pending or not: an image that a crash at any moment may leave is one that a crash
-- before might have left, or scrubs to the same as what the disk read did; and so does what it reads, after a fault
-- too. After Ok the disk is durable and reads what scrubbing leaves.
pub record ScrubsImage {T E : Type 0} (slots : ℕ) (old new : DiskState) (result : Result T E) : Type 0 where
  pub crash : LeavesOnly old new (λ image. old.crash_images image ⊎ ScrubsAs slots old.bytes image)
  pub reads : ScrubsAs slots old.bytes new.bytes
  pub durable : OnOk result (IsDurable new)
  pub done : OnOk result (new.bytes ≡ scrubbed slots old.bytes)

-- the writes of a scrub: those of opening the image, and one for each slot that is free then and not zero
abbrev pub writes_to_scrub : ℕ → List ℕ → ℕ
writes_to_scrub slots image = opening_writes slots image + scrub_writes (recovered_slot slots image) slots

-- A scrub makes just these writes, and as many syncs as opening the image: one after the last slot stands in place of
-- the one before the check. With a fault it makes no more.
pub record CountsScrub {T E : Type 0} (slots : ℕ) (old new : DiskState) (result : Result T E) : Type 0 where
  pub made : OnOk result (Made (writes_to_scrub slots old.bytes) (opening_syncs slots old.bytes) old new)
  pub limit : MadeAtMost (writes_to_scrub slots old.bytes) (opening_syncs slots old.bytes) old new
