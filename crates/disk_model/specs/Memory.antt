-- A disk in memory, as its clauses see it, and what a crash may leave of it, computed from what it keeps.
use Rattle.std.specs.Prelude.{◌≡◌, ◌⊎◌, ℕ, ◌+◌, ◌-◌, ◌*◌, ◌<◌, ◌≤◌, nat_lt, true, List, [], ◌∷◌, ◌++◌, length, take}
use Rattle.std.specs.Prelude.{drop, slice_index, if◌then◌else◌}
use Rattle.disk_model.specs.DiskState.{DiskState}
use Rattle.disk_model.specs.DiskCalls.{raised, raised_by, overwrite}
use Rattle.disk_model.specs.declared.record.Call.{Call}
use Rattle.disk_model.specs.declared.record.Call.TheVariants.{Write, Sync}

-- What a disk in memory keeps. Its calls are those of the record, the newest first, and `replaced` has the bytes that
-- the record's writes replaced, those of the newest write last.
pub record Memory : Type 0 where
  pub bytes : List ℕ
  pub synced : List ℕ
  pub calls : List Call
  pub replaced : List ℕ
  pub room : ℕ
  pub faults : ℕ
  pub writes : ℕ
  pub syncs : ℕ
  pub fetched : ℕ

-- the room that is left for the record: each call takes 16 bytes, and a write as many again as it wrote
abbrev pub room_left : Memory → ℕ
room_left memory = memory.room - (16 * length memory.calls + length memory.replaced)

-- the byte at this place was written since the last sync
abbrev pub IsPending : List Call → ℕ → Type 0
IsPending [] place = ⊥
IsPending (Sync ∷ earlier) place = ⊥
IsPending (Write at len ∷ earlier) place = ((at ≤ place) × (place < at + len)) ⊎ IsPending earlier place

-- A crash may leave this image: each byte that is not pending is as it reads, and the others are anything.
pub record IsCrashImage (bytes : List ℕ) (calls : List Call) (image : List ℕ) : Type 0 where
  pub size : length image ≡ length bytes
  pub kept : (place : ℕ) → ¬ IsPending calls place → slice_index image place ≡ slice_index bytes place

-- the bytes before this call, which was the last
abbrev pub undone : Call → List ℕ → List ℕ → List ℕ
undone Sync replaced bytes = bytes
undone (Write at len) replaced bytes = overwrite bytes at (drop (length replaced - len) replaced)

-- what the calls before this one had replaced
abbrev pub replaced_before : Call → List ℕ → List ℕ
replaced_before Sync replaced = replaced
replaced_before (Write at len) replaced = take (length replaced - len) replaced

-- A crash at some moment from t on might have left this image: now, or, with the last call undone, before it.
abbrev pub IsCrashImageSince : List ℕ → List Call → List ℕ → ℕ → List ℕ → Type 0
IsCrashImageSince bytes [] replaced t image = IsCrashImage bytes [] image
IsCrashImageSince bytes (call ∷ earlier) replaced t image =
    IsCrashImage bytes (call ∷ earlier) image
    ⊎ ((t ≤ length earlier) × IsCrashImageSince (undone call replaced bytes) earlier
    (replaced_before call replaced) t image)

-- the meaning of a disk in memory; its clock is the number of calls in its record
abbrev pub memory_state : Memory → DiskState
memory_state memory = record {
  size = length memory.bytes;
  is_observable = true;
  bytes = memory.bytes;
  crash_images = IsCrashImage memory.bytes memory.calls;
  clock = length memory.calls;
  crash_images_since = IsCrashImageSince memory.bytes memory.calls memory.replaced;
  faults = memory.faults;
  writes = memory.writes;
  syncs = memory.syncs;
}

-- after a read of so many bytes
abbrev pub after_read : Memory → ℕ → Memory
after_read memory len = record memory { fetched = raised_by memory.fetched len }

-- after a write that found room
abbrev pub written : Memory → ℕ → List ℕ → Memory
written memory at bytes = record memory {
  bytes = overwrite memory.bytes at bytes;
  calls = Write at (length bytes) ∷ memory.calls;
  replaced = memory.replaced ++ take (length bytes) (drop at memory.bytes);
  writes = raised memory.writes;
}

-- after a write that found too little, which changes nothing but the counts
abbrev pub refused_write : Memory → Memory
refused_write memory = record memory { faults = raised memory.faults; writes = raised memory.writes }

-- after a write of these bytes
abbrev pub after_write : Memory → ℕ → List ℕ → Memory
after_write memory at bytes = if nat_lt (room_left memory) (length bytes + 16) then refused_write memory else
    written memory at bytes

-- after a sync that found room
abbrev pub flushed : Memory → Memory
flushed memory = record memory { synced = memory.bytes; calls = Sync ∷ memory.calls; syncs = raised memory.syncs }

-- after a sync that found too little, which changes nothing but the counts
abbrev pub refused_sync : Memory → Memory
refused_sync memory = record memory { faults = raised memory.faults; syncs = raised memory.syncs }

-- after a sync
abbrev pub after_sync : Memory → Memory
after_sync memory = if nat_lt (room_left memory) 16 then refused_sync memory else flushed memory

-- a disk with these bytes, all of them durable, on which no call was made
abbrev pub fresh : List ℕ → ℕ → Memory
fresh bytes room = record {
  bytes = bytes;
  synced = bytes;
  calls = [];
  replaced = [];
  room = room;
  faults = 0;
  writes = 0;
  syncs = 0;
  fetched = 0;
}

-- after a crash that left this image: all of it is durable, and the record is empty
abbrev pub restarted : Memory → List ℕ → Memory
restarted memory image = record memory { bytes = image; synced = image; calls = []; replaced = [] }
