-- What a disk means at one moment, and what is said of it there.
use Rattle.std.specs.Prelude.{◌≡◌, ℕ, ◌≤◌, Bool, IsTrue, List, length}

-- A disk at one moment. Only where it is observable do its bytes, crash images, writes and syncs mean anything.
pub record DiskState : Type 1 where
  -- how many bytes it has
  pub size : ℕ
  -- whether it tells its bytes
  pub is_observable : Bool
  -- what a read of the whole disk gives
  pub bytes : List ℕ
  -- the images that a crash at this moment may leave
  pub crash_images : List ℕ → Type 0
  -- this moment, a number that never falls
  pub clock : ℕ
  -- the images that a crash at some moment, from a given one to this, might have left
  pub crash_images_since : ℕ → List ℕ → Type 0
  -- how many calls failed, how many writes and how many syncs were made: each stays at the last value of a u64
  pub faults : ℕ
  pub writes : ℕ
  pub syncs : ℕ

-- the disk tells its bytes
abbrev pub IsObservable : DiskState → Type 0
IsObservable disk = IsTrue disk.is_observable

-- a crash leaves exactly what a read gives
abbrev pub IsDurable : DiskState → Type 0
IsDurable disk = (image : List ℕ) → disk.crash_images image → image ≡ disk.bytes

-- each image that a crash at this moment may leave has P
abbrev pub MayLeaveOnly : DiskState → (List ℕ → Type 0) → Type 0
MayLeaveOnly disk P = (image : List ℕ) → disk.crash_images image → P image

-- how the parts of an observable disk agree with each other
pub record IsSound (disk : DiskState) : Type 0 where
  pub size : length disk.bytes ≡ disk.size
  -- the disk as it reads is one of the images that a crash may leave, and all of them are as long
  pub read_image : disk.crash_images disk.bytes
  pub image_size : (image : List ℕ) → disk.crash_images image → length image ≡ disk.size
  -- this moment is one of those since an earlier one, and since this moment there is no other
  pub includes_now : (t : ℕ) (image : List ℕ) → t ≤ disk.clock → disk.crash_images image
      → disk.crash_images_since t image
  pub only_now : (image : List ℕ) → disk.crash_images_since disk.clock image → disk.crash_images image
