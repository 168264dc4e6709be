-- The parts of a disk in memory agree with each other. It stands here since it proves the trait's law.
use Rattle.std.specs.Prelude.{ℕ, ◌≤◌, List, [], ◌∷◌, length, refl}
use Rattle.std.proofs.Common.{inl, inr, arith}
use Rattle.disk_model.specs.declared.record.Call.{Call}
use Rattle.disk_model.specs.DiskState.{IsSound}
use Rattle.disk_model.specs.Memory.{Memory, IsCrashImage, IsCrashImageSince, memory_state}

pub includes_now : (bytes : List ℕ) (calls : List Call) (replaced : List ℕ) (t : ℕ) (image : List ℕ)
    → IsCrashImage bytes calls image → IsCrashImageSince bytes calls replaced t image
includes_now bytes [] replaced t image now = now
includes_now bytes (call ∷ earlier) replaced t image now = inl now

pub only_now : (bytes : List ℕ) (calls : List Call) (replaced : List ℕ) (t : ℕ) (image : List ℕ) → length calls ≤ t
    → IsCrashImageSince bytes calls replaced t image → IsCrashImage bytes calls image
only_now bytes [] replaced t image le left = left
only_now bytes (call ∷ earlier) replaced t image le (inl now) = now
only_now bytes (call ∷ earlier) replaced t image le (inr past) = absurd (omega arith)

pub memory_is_sound : (memory : Memory) → IsSound (memory_state memory)
memory_is_sound memory = record {
  size = refl;
  read_image = record { size = refl; kept = λ place none. refl };
  image_size = λ image is. is.size;
  includes_now = λ t image le now. includes_now memory.bytes memory.calls memory.replaced t image now;
  only_now = λ image left. only_now memory.bytes memory.calls memory.replaced (length memory.calls)
      image (omega arith) left;
}
