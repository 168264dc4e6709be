-- A disk's meaning with other counts.
use Rattle.std.specs.Prelude.{ℕ}
use Rattle.disk_model.specs.DiskState.{DiskState, IsSound}
use Rattle.disk_model.specs.DiskCalls.{raised_by}

-- the same disk, with so many more faults, writes and syncs
abbrev pub counted : DiskState → ℕ → ℕ → ℕ → DiskState
counted disk faults writes syncs = record disk {
  faults = raised_by disk.faults faults;
  writes = raised_by disk.writes writes;
  syncs = raised_by disk.syncs syncs;
}

-- its parts agree with each other as before; it stands here since it proves a trait's law
pub counted_is_sound : (disk : DiskState) (faults writes syncs : ℕ) → IsSound disk
    → IsSound (counted disk faults writes syncs)
counted_is_sound disk faults writes syncs sound =
    record {
      size = sound.size;
      read_image = sound.read_image;
      image_size = sound.image_size;
      includes_now = sound.includes_now;
      only_now = sound.only_now;
    }
