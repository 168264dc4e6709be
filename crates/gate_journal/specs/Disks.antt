-- What calls do to a disk, one after another.
use Rattle.std.specs.Prelude.{◌≡◌, ◌≤◌, ◌-◌, ◌^◌, min}
use Rattle.disk_model.specs.DiskState.{DiskState}
use Rattle.disk_model.specs.DiskCalls.{raised}

-- what calls keep of every disk: its size, whether it tells its bytes, and that no count falls
pub record KeepsDisk (old new : DiskState) : Type 0 where
  pub size : new.size ≡ old.size
  pub observable : new.is_observable ≡ old.is_observable
  pub faults : old.faults ≤ new.faults
  pub writes : old.writes ≤ new.writes
  pub syncs : old.syncs ≤ new.syncs

-- nothing was written: the bytes and the count of writes are as they were
pub record IsUnwritten (old new : DiskState) : Type 0 where
  pub bytes : new.bytes ≡ old.bytes
  pub writes : new.writes ≡ old.writes

-- nothing was written, and one sync was made at most, as far as the count goes
pub record IsOnlySynced (old new : DiskState) : Type 0 where
  pub bytes : new.bytes ≡ old.bytes
  pub writes : new.writes ≡ old.writes
  pub sync_limit : min new.syncs (2 ^ 64 - 1) ≤ raised old.syncs
