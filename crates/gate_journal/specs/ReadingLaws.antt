-- Calls that read only, none of them and one after another. The laws stand here since those of a trait are proved by
-- them.
use Rattle.std.proofs.Common.{◌∙◌, refl}
use Rattle.disk_model.specs.DiskState.{DiskState, IsSound}
use Rattle.disk_model.proofs.Crashes.{LeavesOnly-refl, LeavesOnly-trans, LeavesOnly-weaken}
use Rattle.gate_journal.specs.Places.{ReadsOnly}

pub ReadsOnly-refl : (disk : DiskState) → IsSound disk → ReadsOnly disk disk
ReadsOnly-refl disk sound = record {
  leaves = LeavesOnly-refl disk disk.crash_images sound (λ image here. here);
  bytes = refl;
  crash = λ image. (λ here. here, λ here. here);
  write_count = refl;
  sync_count = refl;
}

pub ReadsOnly-trans : (old mid new : DiskState) → ReadsOnly old mid → ReadsOnly mid new → ReadsOnly old new
ReadsOnly-trans old mid new first then = record {
  leaves = LeavesOnly-trans old mid new old.crash_images first.leaves
      (LeavesOnly-weaken mid new mid.crash_images old.crash_images (λ image. (first.crash image).0) then.leaves);
  bytes = then.bytes ∙ first.bytes;
  crash = λ image. (
    λ here. (first.crash image).0 ((then.crash image).0 here),
    λ here.
        (then.crash image).1 ((first.crash image).1 here),
  );
  write_count = then.write_count ∙ first.write_count;
  sync_count = then.sync_count ∙ first.sync_count;
}
