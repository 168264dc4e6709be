-- What recovery does to a disk.
use Rattle.std.specs.Prelude.{◌≡◌, ◌⊎◌, ℕ, ◌+◌, ◌-◌, ◌*◌, ◌==◌, ◌<◌, ◌≤◌, if◌then◌else◌, not, List, length, slice_index}
use Rattle.std.specs.Prelude.{true, Result, OnOk}
use Rattle.std.specs.List.{list_any, sum_by, count_by}
use Rattle.store_model.specs.Lists.{numbers_from, numbers_below}
use Rattle.store_model.specs.Parameters.{block_len, gate_at, marks_at, mark_blocks, shadow_at, table_at}
use Rattle.store_model.specs.declared.version.Version.TheVariants.{Two}
use Rattle.store_model.specs.Images.{version_byte, version_at, bytes_at, is_flag_set, is_marked, recovered}
use Rattle.disk_model.specs.DiskState.{DiskState, IsDurable}
use Rattle.disk_model.specs.DiskCalls.{LeavesOnly}
use Rattle.gate_journal.specs.Places.{IsApart}
use Rattle.gate_journal.specs.Phases.{table_slot, HasTable, HasEmptyJournal}

-- a place of the journal behind the commit flag
abbrev pub IsBehindFlag : ℕ → ℕ → Type 0
IsBehindFlag slots place = (gate_at + 1 ≤ place) × (place < table_at slots 0)

-- a place outside the table slots, of those from this one to that, that the image has marked
abbrev pub OutsideMarked : ℕ → ℕ → ℕ → List ℕ → ℕ → Type 0
OutsideMarked slots from to marks place = (i : ℕ) → from ≤ i → i < to → is_marked marks i ≡ true
    → IsApart (table_at slots i) block_len place

-- the slots, of those from this one to that, that the image has marked hold its shadow blocks
abbrev pub AreRedone : ℕ → ℕ → ℕ → List ℕ → List ℕ → Type 0
AreRedone slots from to marks image = (i : ℕ) → from ≤ i → i < to → is_marked marks i ≡ true
    → table_slot slots image i ≡ bytes_at marks (shadow_at slots i) block_len

-- a place outside the header's version, where the image has the mark behind the last slot's set
abbrev pub OutsideVersion : ℕ → List ℕ → ℕ → Type 0
OutsideVersion slots marks place = is_marked marks slots ≡ true → IsApart version_at 1 place

-- the header has version 2, where the other image has the mark behind the last slot's set
abbrev pub HasRedoneVersion : ℕ → List ℕ → List ℕ → Type 0
HasRedoneVersion slots marks image = is_marked marks slots ≡ true → slice_index image version_at ≡ version_byte Two

-- a place outside what the journal of the image is redone to
pub record OutsideRedone (slots : ℕ) (marks : List ℕ) (place : ℕ) : Type 0 where
  pub table : OutsideMarked slots 0 slots marks place
  pub version : OutsideVersion slots marks place

-- the journal of the other image is redone
pub record IsRedone (slots : ℕ) (marks image : List ℕ) : Type 0 where
  pub table : AreRedone slots 0 slots marks image
  pub version : HasRedoneVersion slots marks image

-- the image is as long as the other, and recovers to what that does
pub record RecoversAs (slots : ℕ) (old image : List ℕ) : Type 0 where
  pub same_length : length image ≡ length old
  pub recovers : recovered slots image ≡ recovered slots old

-- The flag of a durable disk is settled: an image that a crash at any moment may leave recovers as before, and after Ok
-- the disk is durable, its table is the recovered one, and the flag is clear.
pub record SettlesFlag {T E : Type 0} (slots : ℕ) (old new : DiskState) (result : Result T E) : Type 0 where
  pub crash : LeavesOnly old new (RecoversAs slots old.bytes)
  pub durable : OnOk result (IsDurable new)
  pub table : OnOk result (HasTable slots (recovered slots old.bytes) new.bytes)
  pub clear : OnOk result (slice_index new.bytes gate_at ≡ 0)

-- A durable disk is recovered: an image that a crash at any moment may leave recovers as before, and after Ok the
-- disk is durable and reads what was to be recovered.
pub record RecoversDurable {T E : Type 0} (slots : ℕ) (old new : DiskState) (result : Result T E) : Type 0 where
  pub crash : LeavesOnly old new (RecoversAs slots old.bytes)
  pub durable : OnOk result (IsDurable new)
  pub done : OnOk result (new.bytes ≡ recovered slots old.bytes)

-- A disk is recovered, with writes pending or not: an image that a crash at any moment may leave is one that a crash
-- before might have left, or recovers as what the disk read did; and so does what it reads, after a fault too. After
-- Ok the disk is durable and reads what was to be recovered.
pub record Recovers {T E : Type 0} (slots : ℕ) (old new : DiskState) (result : Result T E) : Type 0 where
  pub crash : LeavesOnly old new (λ image. old.crash_images image ⊎ RecoversAs slots old.bytes image)
  pub reads : RecoversAs slots old.bytes new.bytes
  pub durable : OnOk result (IsDurable new)
  pub done : OnOk result (new.bytes ≡ recovered slots old.bytes)
  pub empty : OnOk result (HasEmptyJournal slots new.bytes)

-- how many of so many marks, from that of this slot on, are set
unfoldable pub marked_count : ℕ → ℕ → List ℕ → ℕ
marked_count first count image = count_by (is_marked image) (numbers_from first count)

-- the writes that make n bytes zero: one, where one of them is not zero
unfoldable pub clear_writes : ℕ → ℕ → List ℕ → ℕ
clear_writes at n image = if list_any (λ byte. not (byte == 0)) (bytes_at image at n) then 1 else 0

-- the writes that make the first blocks of marks and shadow zero
unfoldable pub clear_block_writes : ℕ → List ℕ → ℕ
clear_block_writes blocks image =
    sum_by (λ i. clear_writes (marks_at + block_len * i) block_len image) (numbers_below blocks)

-- the writes that redo the journal, where the flag is set: one for each marked slot, one for the header where the mark
-- behind the last slot's is set, and one for the flag
unfoldable pub redo_writes : ℕ → List ℕ → ℕ
redo_writes slots image = if is_flag_set image then marked_count 0 (slots + 1) image + 1 else 0

-- and the syncs: one after slots and header, and one after the flag
unfoldable pub redo_syncs : List ℕ → ℕ
redo_syncs image = if is_flag_set image then 2 else 0

-- the writes that erase the journal: one for each block of marks and shadow that is not zero, and one for the gate
-- block behind the flag
abbrev pub erase_writes : ℕ → List ℕ → ℕ
erase_writes slots image = clear_writes (gate_at + 1) (block_len - 1) image
    + clear_block_writes (mark_blocks slots + slots) image
