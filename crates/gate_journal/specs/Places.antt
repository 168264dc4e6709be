-- What writes that spare some places of a disk leave as it was.
use Rattle.std.specs.Prelude.{◌≡◌, ◌⊎◌, ◌↔◌, ℕ, ◌+◌, ◌-◌, ◌^◌, min, ◌<◌, ◌≤◌, List, length, slice_index, Result, OnOk}
use Rattle.disk_model.specs.DiskState.{DiskState}
use Rattle.disk_model.specs.DiskCalls.{raised_by, faults_after, LeavesOnly}

-- a place outside the range of n places from this one on
abbrev pub IsApart : ℕ → ℕ → ℕ → Type 0
IsApart at n place = (place < at) ⊎ (at + n ≤ place)

-- as many bytes, and at each of these places the same
pub record SameAt (places : ℕ → Type 0) (old new : List ℕ) : Type 0 where
  pub same_length : length new ≡ length old
  pub same : (place : ℕ) → places place → slice_index new place ≡ slice_index old place

-- one of these images, with any bytes outside these places
abbrev pub TornOutside : (ℕ → Type 0) → (List ℕ → Type 0) → List ℕ → Type 0
TornOutside places images image = (whole : List ℕ) × images whole × SameAt places whole image

-- Calls that keep these places: they read the same there after the calls, and what a crash during the calls may
-- leave is one of the images that a crash before them may leave, with any bytes elsewhere.
pub record Keeps (places : ℕ → Type 0) (old new : DiskState) : Type 0 where
  pub leaves : LeavesOnly old new (TornOutside places old.crash_images)
  pub reads : SameAt places old.bytes new.bytes

-- What several calls ensure of every disk, whether or not it tells its bytes: its size stays, and no count falls. Where
-- they answer Ok none failed, and otherwise one did.
pub record AreCalls {T E : Type 0} (old new : DiskState) (result : Result T E) : Type 0 where
  pub size : new.size ≡ old.size
  pub observable : new.is_observable ≡ old.is_observable
  pub faults : new.faults ≡ faults_after old.faults result
  pub rise : old.faults ≤ new.faults
  pub writes : old.writes ≤ new.writes
  pub syncs : old.syncs ≤ new.syncs

-- so many writes and syncs were made, as far as the counts go
pub record Made (writes syncs : ℕ) (old new : DiskState) : Type 0 where
  pub write_count : min new.writes (2 ^ 64 - 1) ≡ raised_by old.writes writes
  pub sync_count : min new.syncs (2 ^ 64 - 1) ≡ raised_by old.syncs syncs

-- where these calls answer Ok they made so many writes and syncs, and with a fault no more
pub record Makes {T E : Type 0} (writes syncs : ℕ) (old new : DiskState) (result : Result T E) : Type 0 where
  pub write_count : OnOk result (new.writes ≡ raised_by old.writes writes)
  pub sync_count : OnOk result (new.syncs ≡ raised_by old.syncs syncs)
  pub write_limit : new.writes ≤ raised_by old.writes writes
  pub sync_limit : new.syncs ≤ raised_by old.syncs syncs

-- calls that keep these places, and after Ok leave a disk that reads an image with Done
pub record Reaches {T E : Type 0} (places : ℕ → Type 0) (Done : List ℕ → Type 0) (old new : DiskState)
    (result : Result T E) : Type 0 where
  pub keeps : Keeps places old new
  pub done : OnOk result (Done new.bytes)

-- Calls that read only: the disk reads the same, a crash may leave the same, and nothing was written or synced.
pub record ReadsOnly (old new : DiskState) : Type 0 where
  pub leaves : LeavesOnly old new old.crash_images
  pub bytes : new.bytes ≡ old.bytes
  pub crash : (image : List ℕ) → new.crash_images image ↔ old.crash_images image
  pub write_count : new.writes ≡ old.writes
  pub sync_count : new.syncs ≡ old.syncs

-- n bytes of the image, from this place on, are zero
abbrev pub IsZeroAt : ℕ → ℕ → List ℕ → Type 0
IsZeroAt at n image = (place : ℕ) → at ≤ place → place < at + n → slice_index image place ≡ 0
