-- What the disk of an image that can only be read tells of the disk below it.
use Rattle.std.specs.Prelude.{◌≡◌, ◌↔◌, ℕ, zero, suc, ◌<◌, ◌≤◌, List, ◌∷◌, length}
use Rattle.disk_model.specs.DiskState.{DiskState}

-- The disk was only read: it reads the same, nothing was written or synced, and an image that no crash might have left
-- none may leave.
pub record IsUntouched (old new : DiskState) : Type 0 where
  pub bytes : new.bytes ≡ old.bytes
  pub crash : (image : List ℕ) → (new.crash_images image → ⊥) ↔ (old.crash_images image → ⊥)
  pub write_count : new.writes ≡ old.writes
  pub sync_count : new.syncs ≡ old.syncs

-- What a disk is, as one list: its counts of writes and syncs, and behind them an image, at moment 0 one that a crash
-- may leave, and then the one that it reads.
abbrev pub IsTrace : DiskState → ℕ → List ℕ → Type 0
IsTrace disk zero trace = (image : List ℕ) × disk.crash_images image × (trace ≡ disk.writes ∷ disk.syncs ∷ image)
IsTrace disk (suc moment) trace = trace ≡ disk.writes ∷ disk.syncs ∷ disk.bytes

-- so many moments tell of the disk below
abbrev pub first_moment : ℕ
first_moment = 2

-- A disk stands over another. The first moments of its history are what the disk below is, which no image can be: it is
-- two numbers longer. So calls that keep the history of a disk, as all calls do, keep the disk below as it is.
pub record IsOver (below disk : DiskState) : Type 0 where
  pub size : below.size ≡ disk.size
  pub begun : first_moment ≤ disk.clock
  pub traces : (moment : ℕ) (trace : List ℕ) → moment < first_moment → length trace ≡ suc (suc disk.size)
      → disk.crash_images_since moment trace ↔ IsTrace below moment trace
