-- A file as a disk. No contract can say what a file gives or takes, so it tells no bytes: its faults alone are counted.
use Rattle.std.specs.Prelude.{false, IsTrue, []}
use Rattle.disk_model.specs.declared.file.FileDisk.{FileDisk}
use Rattle.disk_model.specs.DiskState.{DiskState}

-- the meaning of a file: what it reads, and what a crash leaves of it, is anything
abbrev pub file_state : FileDisk → DiskState
file_state disk = record {
  size = disk.len;
  is_observable = false;
  bytes = [];
  crash_images = λ image. Unit {0};
  clock = 0;
  crash_images_since = λ t image. Unit {0};
  faults = disk.faults;
  writes = 0;
  syncs = 0;
}

-- a file is never observable, so each claim about an observable one holds of it
pub no_bytes : {P : Type 0} → IsTrue false → P
no_bytes observable = cc
