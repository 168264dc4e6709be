-- What one call of a disk does, and what several calls after one another may leave.
use Rattle.std.specs.Prelude.{◌≡◌, ◌↔◌, ◌⊎◌, ℕ, ◌+◌, ◌^◌, ◌<◌, ◌≤◌, List, length, take, drop, slice_index, Result, OnOk}
use Rattle.std.specs.Prelude.{OnErr}
pub use Rattle.store_model.specs.Lists.{overwrite}
pub use Rattle.store_base.specs.Counts.{raised_by, raised, Rose, faults_after}
use Rattle.disk_model.specs.DiskState.{DiskState, IsObservable, IsDurable}

-- as many bytes, each outside the range of n bytes at this offset as it was, those in the range whatever they are
pub record SameOutside (at n : ℕ) (old new : List ℕ) : Type 0 where
  pub same_length : length new ≡ length old
  pub below : (i : ℕ) → i < at → slice_index new i ≡ slice_index old i
  pub above : (i : ℕ) → at + n ≤ i → slice_index new i ≡ slice_index old i

-- one of these images, with any bytes in the range
abbrev pub Torn : ℕ → ℕ → (List ℕ → Type 0) → List ℕ → Type 0
Torn at n images image = (whole : List ℕ) × images whole × SameOutside at n whole image

-- Time goes on: the images since an earlier moment are those that there were at `old`, and those left since `old`.
pub record Elapses (old new : DiskState) : Type 0 where
  pub later : old.clock ≤ new.clock
  pub since : (t : ℕ) (image : List ℕ) → t ≤ old.clock → new.crash_images_since t image
      ↔ (old.crash_images_since t image ⊎ new.crash_images_since old.clock image)

-- Each image that a crash at some moment from `old` to `new` might have left has P.
pub record LeavesOnly (old new : DiskState) (P : List ℕ → Type 0) : Type 0 where
  pub time : Elapses old new
  pub each : (image : List ℕ) → new.crash_images_since old.clock image → P image

-- what every call ensures of every disk, whether or not it tells its bytes
pub record IsCall {T E : Type 0} (old new : DiskState) (result : Result T E) : Type 0 where
  pub size : new.size ≡ old.size
  pub observable : new.is_observable ≡ old.is_observable
  -- each failed call is counted, and no other
  pub faults : new.faults ≡ faults_after old.faults result
  -- no count falls, and none passes the last value of a u64
  pub rise : old.faults ≤ new.faults
  pub writes : old.writes ≤ new.writes
  pub syncs : old.syncs ≤ new.syncs
  pub last_fault : new.faults < 2 ^ 64
  pub last_write : new.writes < 2 ^ 64
  pub last_sync : new.syncs < 2 ^ 64

-- what a read into a buffer does to a disk that tells its bytes
pub record ReadsBytes {T E : Type 0} (old new : DiskState) (at : ℕ) (buffer : List ℕ)
    (result : Result T E) : Type 0 where
  pub time : Elapses old new
  pub read : OnOk result (buffer ≡ take (length buffer) (drop at old.bytes))
  pub bytes : new.bytes ≡ old.bytes
  pub crash : (image : List ℕ) → new.crash_images image ↔ old.crash_images image
  pub during : (image : List ℕ) → new.crash_images_since old.clock image → old.crash_images image
  pub write_count : new.writes ≡ old.writes
  pub sync_count : new.syncs ≡ old.syncs

-- what a write of these bytes does to a disk that tells its bytes
pub record WritesBytes {T E : Type 0} (old new : DiskState) (at : ℕ) (bytes : List ℕ)
    (result : Result T E) : Type 0 where
  pub time : Elapses old new
  pub written : OnOk result (new.bytes ≡ overwrite old.bytes at bytes)
  pub outside : SameOutside at (length bytes) old.bytes new.bytes
  -- until a sync succeeds a crash may leave any bytes in the range: after a failed write perhaps, after one that
  -- succeeded always
  pub during : (image : List ℕ) → new.crash_images_since old.clock image → Torn at (length bytes) old.crash_images image
  pub pending : OnOk result ((image : List ℕ) → Torn at (length bytes) old.crash_images image → new.crash_images image)
  -- what was pending outside the range still is
  pub still_pending : (whole : List ℕ) → old.crash_images whole
      → (image : List ℕ) × new.crash_images image × SameOutside at (length bytes) whole image
  pub write_count : new.writes ≡ raised old.writes
  pub sync_count : new.syncs ≡ old.syncs

-- what a sync does to a disk that tells its bytes
pub record SyncsBytes {T E : Type 0} (old new : DiskState) (result : Result T E) : Type 0 where
  pub time : Elapses old new
  pub bytes : new.bytes ≡ old.bytes
  pub durable : OnOk result (IsDurable new)
  -- after a sync that failed, what was pending is pending
  pub pending : OnErr result ((image : List ℕ) → new.crash_images image ↔ old.crash_images image)
  pub during : (image : List ℕ) → new.crash_images_since old.clock image → old.crash_images image
  pub write_count : new.writes ≡ old.writes
  pub sync_count : new.syncs ≡ raised old.syncs

-- a read of the bytes at this offset into a buffer, which then holds these
pub record IsRead {T E : Type 0} (old new : DiskState) (at : ℕ) (buffer : List ℕ) (result : Result T E) : Type 0 where
  pub call : IsCall old new result
  pub observed : IsObservable old → ReadsBytes old new at buffer result

-- a write of these bytes at this offset
pub record IsWrite {T E : Type 0} (old new : DiskState) (at : ℕ) (bytes : List ℕ) (result : Result T E) : Type 0 where
  pub call : IsCall old new result
  pub observed : IsObservable old → WritesBytes old new at bytes result

-- a sync
pub record IsSync {T E : Type 0} (old new : DiskState) (result : Result T E) : Type 0 where
  pub call : IsCall old new result
  pub observed : IsObservable old → SyncsBytes old new result
