-- What the calls of a disk in memory leave is what the trait says of a read, a write and a sync.
use Rattle.std.proofs.Common.{true, false, ◌≡◌, ◌⊎◌, ℕ, ◌+◌, ◌-◌, ◌^◌, ◌<◌, ◌≤◌, List, ◌∷◌, ◌++◌, length, take, drop}
use Rattle.std.proofs.Common.{slice_index, refl, sym, ◌∙◌, ap, subst, inl, inr, ⊎_elim, arith, Ok, Err, length-take}
use Rattle.std.proofs.Common.{length-drop, length-append, get_or-take, get_or-drop}
use Rattle.std.proofs.lemmas.Bool.{cases_lt, false≢true}
use Rattle.std.proofs.lemmas.List.{ext_get_or, take_at, drop_at}
use Rattle.disk_model.specs.declared.record.Call.{Call}
use Rattle.disk_model.specs.declared.record.Call.TheVariants.{Write, Sync}
use Rattle.disk_model.specs.DiskCalls.{overwrite, raised, SameOutside, Torn, IsRead, IsWrite, IsSync}
use Rattle.disk_model.specs.Memory.{Memory, room_left, IsCrashImage, IsCrashImageSince, memory_state, undone}
use Rattle.disk_model.specs.Memory.{replaced_before, after_read, written, refused_write, flushed, refused_sync}
use Rattle.disk_model.specs.MemoryLaws.{memory_is_sound, only_now, includes_now}
use Rattle.disk_model.specs.Record.{LieWithin, IsConsistent}
use Rattle.disk_model.proofs.Images.{SameOutside-refl, SameOutside-sym, SameOutside-overwrite, slice_index-overwrite}
use Rattle.disk_model.proofs.Crashes.{Elapses-refl}

-- The record grows by one call, which can be undone.
module _ (bytes before : List ℕ) (call : Call) (calls : List Call) (replaced replaced_then : List ℕ)
    (undo : undone call replaced bytes ≡ before) (rest : replaced_before call replaced ≡ replaced_then) where
  abbrev Since : ℕ → List ℕ → Type 0
  Since = IsCrashImageSince bytes (call ∷ calls) replaced

  abbrev Past : ℕ → List ℕ → Type 0
  Past = IsCrashImageSince before calls replaced_then

  past_in : (t : ℕ) (image : List ℕ) → t ≤ length calls → Past t image → Since t image
  past_in t image le past =
      inr (
        le,
        subst (λ (b : List ℕ). IsCrashImageSince b calls (replaced_before call replaced) t image) (sym undo)
            (subst (λ (r : List ℕ). IsCrashImageSince before calls r t image) (sym rest) past),
      )

  pub since_cases : (t : ℕ) (image : List ℕ) → Since t image → IsCrashImage bytes (call ∷ calls) image ⊎ Past t image
  since_cases t image (inl now) = inl now
  since_cases t image (inr past) =
      inr (subst (λ (r : List ℕ). IsCrashImageSince before calls r t image) rest
      (subst (λ (b : List ℕ). IsCrashImageSince b calls (replaced_before call replaced) t image) undo past.1))

  pub since_splits : (t : ℕ) (image : List ℕ) → t ≤ length calls → Since t image
      → Past t image ⊎ Since (length calls) image
  since_splits t image le left = ⊎_elim (λ now. inr (inl now)) (λ past. inl past) (since_cases t image left)

  pub since_joins : (t : ℕ) (image : List ℕ) → t ≤ length calls
      → Past t image ⊎ Since (length calls) image → Since t image
  since_joins t image le (inl past) = past_in t image le past
  since_joins t image le (inr (inl now)) = inl now
  since_joins t image le (inr (inr past)) =
      inr (le, includes_now _ calls _ t image (only_now _ calls _ (length calls) image (omega arith) past.1))

-- the counts of a disk in memory are those of u64s
pub record CountsFit (memory : Memory) : Type 0 where
  pub faults : memory.faults < 2 ^ 64
  pub writes : memory.writes < 2 ^ 64
  pub syncs : memory.syncs < 2 ^ 64

-- a read
pub IsRead-after_read : {T E : Type 0} (memory : Memory) (at : ℕ) (buffer : List ℕ) (value : T) → CountsFit memory
    → buffer ≡ take (length buffer) (drop at memory.bytes)
    → IsRead {T = T} {E = E} (memory_state memory)
    (memory_state (after_read memory (length buffer))) at buffer (Ok value)
IsRead-after_read memory at buffer value fit read =
    let sound = memory_is_sound memory in
    let time = Elapses-refl (memory_state memory) sound in
    record {
      call = record {
        size = refl;
        observable = refl;
        faults = refl;
        rise = omega arith;
        writes = omega arith;
        syncs = omega arith;
        last_fault = fit.faults;
        last_write = fit.writes;
        last_sync = fit.syncs;
      };
      observed = λ _. record {
        time = record { later = time.later; since = time.since };
        read = read;
        bytes = refl;
        crash = λ image. (λ now. now, λ now. now);
        during = sound.only_now;
        write_count = refl;
        sync_count = refl;
      };
    }

-- a write and a sync that found no room
pub IsWrite-refused_write : {T E : Type 0} (memory : Memory) (at : ℕ) (bytes : List ℕ) (error : E) → CountsFit memory
    → IsWrite {T = T} {E = E} (memory_state memory) (memory_state (refused_write memory)) at bytes (Err error)
IsWrite-refused_write memory at bytes error fit =
    let sound = memory_is_sound memory in
    let time = Elapses-refl (memory_state memory) sound in
    record {
      call = record {
        size = refl;
        observable = refl;
        faults = refl;
        rise = omega (arith, fit.faults);
        writes = omega (arith, fit.writes);
        syncs = omega arith;
        last_fault = omega arith;
        last_write = omega arith;
        last_sync = fit.syncs;
      };
      observed = λ _. record {
        time = record { later = time.later; since = time.since };
        written = tt;
        outside = SameOutside-refl at (length bytes) memory.bytes;
        during = λ image left. (image, sound.only_now image left, SameOutside-refl at (length bytes) image);
        pending = tt;
        still_pending = λ whole now. (whole, now, SameOutside-refl at (length bytes) whole);
        write_count = refl;
        sync_count = refl;
      };
    }

pub IsSync-refused_sync : {T E : Type 0} (memory : Memory) (error : E) → CountsFit memory
    → IsSync {T = T} {E = E} (memory_state memory) (memory_state (refused_sync memory)) (Err error)
IsSync-refused_sync memory error fit =
    let sound = memory_is_sound memory in
    let time = Elapses-refl (memory_state memory) sound in
    record {
      call = record {
        size = refl;
        observable = refl;
        faults = refl;
        rise = omega (arith, fit.faults);
        writes = omega arith;
        syncs = omega (arith, fit.syncs);
        last_fault = omega arith;
        last_write = fit.writes;
        last_sync = omega arith;
      };
      observed = λ _. record {
        time = record { later = time.later; since = time.since };
        bytes = refl;
        durable = tt;
        pending = λ image. (λ now. now, λ now. now);
        during = sound.only_now;
        write_count = refl;
        sync_count = refl;
      };
    }

-- a sync that found room
pub IsSync-flushed : {T E : Type 0} (memory : Memory) (value : T) → CountsFit memory
    → IsSync {T = T} {E = E} (memory_state memory) (memory_state (flushed memory)) (Ok value)
IsSync-flushed memory value fit =
    let calls = memory.calls in
    let replaced = memory.replaced in
    let splits = since_splits memory.bytes memory.bytes Sync calls replaced replaced refl refl in
    let joins = since_joins memory.bytes memory.bytes Sync calls replaced replaced refl refl in
    let durable : (image : List ℕ) → IsCrashImage memory.bytes (Sync ∷ calls) image → image ≡ memory.bytes =
    λ image is. ext_get_or 0 image memory.bytes is.size λ place low. is.kept place (λ none. none) in
    let during : (image : List ℕ) → IsCrashImageSince memory.bytes (Sync ∷ calls) replaced (length calls) image
    → IsCrashImage memory.bytes calls image =
    λ image left. ⊎_elim
    (λ (now : IsCrashImage memory.bytes (Sync ∷ calls) image).
    subst (IsCrashImage memory.bytes calls) (sym (durable image now))
    (record { size = refl; kept = λ place none. refl }))
    (λ (past : IsCrashImageSince memory.bytes calls replaced (length calls) image).
    only_now memory.bytes calls replaced (length calls) image (omega arith) past)
    (since_cases memory.bytes memory.bytes Sync calls replaced replaced refl refl (length calls) image left) in
    record {
      call = record {
        size = refl;
        observable = refl;
        faults = refl;
        rise = omega arith;
        writes = omega arith;
        syncs = omega (arith, fit.syncs);
        last_fault = fit.faults;
        last_write = fit.writes;
        last_sync = omega arith;
      };
      observed = λ _. record {
        time = record { later = omega arith; since = λ t image le. (splits t image le, joins t image le) };
        bytes = refl;
        durable = durable;
        pending = tt;
        during = during;
        write_count = refl;
        sync_count = refl;
      };
    }

-- a write that found room
module _ (memory : Memory) (at : ℕ) (bytes : List ℕ) (within : at + length bytes ≤ length memory.bytes) where
  abbrev n : ℕ
  n = length bytes

  abbrev range : List ℕ
  range = take n (drop at memory.bytes)

  abbrev after : Memory
  after = written memory at bytes

  length-range : length range ≡ n
  length-range = omega (arith, length-take n (drop at memory.bytes), length-drop at memory.bytes)

  same : SameOutside at n memory.bytes after.bytes
  same = SameOutside-overwrite memory.bytes at bytes within

  range_at : (place : ℕ) → at ≤ place → place < at + n → slice_index range (place - at) ≡ slice_index memory.bytes place
  range_at place low high =
      let there : at + (place - at) ≡ place = omega arith in
      get_or-take n (drop at memory.bytes) (place - at) 0 (omega arith) ∙ get_or-drop at memory.bytes (place - at) 0
      ∙ ap (slice_index memory.bytes) there

  -- the bytes of the range as they were, in any image
  put_back : (image : List ℕ) → at + n ≤ length image → (place : ℕ) → at ≤ place → place < at + n
      → slice_index (overwrite image at range) place ≡ slice_index memory.bytes place
  put_back image fits place low high =
      slice_index-overwrite image at range place (omega (arith, length-range)) low (omega (arith, length-range))
      ∙ range_at place low high

  back_outside : (image : List ℕ) → at + n ≤ length image → SameOutside at n image (overwrite image at range)
  back_outside image fits = subst (λ (k : ℕ). SameOutside at k image (overwrite image at range)) length-range
      (SameOutside-overwrite image at range (omega (arith, length-range)))

  range_is_last : drop (length (memory.replaced ++ range) - n) (memory.replaced ++ range) ≡ range
  range_is_last = drop_at memory.replaced range _ (omega (arith, length-append memory.replaced range, length-range))

  pub replaced_before_written : take (length (memory.replaced ++ range) - n) (memory.replaced ++ range)
      ≡ memory.replaced
  replaced_before_written = take_at memory.replaced range _
      (omega (arith, length-append memory.replaced range, length-range))

  pub undone_written : undone (Write at n) (memory.replaced ++ range) after.bytes ≡ memory.bytes
  undone_written =
      let fits : at + n ≤ length after.bytes = omega (arith, same.same_length) in
      let whole = back_outside after.bytes fits in
      ap (overwrite after.bytes at) range_is_last
      ∙ ext_get_or 0 (overwrite after.bytes at range) memory.bytes (whole.same_length ∙ same.same_length) λ place low.
      elim (cases_lt place at) [
        | inl below ↦ whole.below place below ∙ same.below place below
        | inr above ↦ elim (cases_lt place (at + n)) [
          | inl inside ↦ put_back after.bytes fits place above inside
          | inr behind ↦ whole.above place behind ∙ same.above place behind
        ]
      ]

  -- what a crash may leave after it is what one before it may leave, with any bytes in the range
  torn_from_now : (image : List ℕ) → IsCrashImage after.bytes after.calls image
      → Torn at n (IsCrashImage memory.bytes memory.calls) image
  torn_from_now image now =
      let fits : at + n ≤ length image = omega (arith, now.size, same.same_length) in
      let back = back_outside image fits in
      let whole = overwrite image at range in
      let was : IsCrashImage memory.bytes memory.calls whole = record {
        size = back.same_length ∙ now.size ∙ same.same_length;
        kept = λ place none. elim (cases_lt place at) [
          | inl below ↦ back.below place below
              ∙ now.kept place (λ here. ⊎_elim (λ inside. absurd (omega arith)) none here) ∙ same.below place below
          | inr above ↦ elim (cases_lt place (at + n)) [
            | inl inside ↦ put_back image fits place above inside
            | inr behind ↦ back.above place behind
                ∙ now.kept place (λ here. ⊎_elim (λ inside. absurd (omega arith)) none here) ∙ same.above place behind
          ]
        ];
      } in
      (whole, was, SameOutside-sym at n image whole back)

  now_from_torn : (image : List ℕ) → Torn at n (IsCrashImage memory.bytes memory.calls) image
      → IsCrashImage after.bytes after.calls image
  now_from_torn image torn =
      let (whole, was, outside) = torn in
      record {
        size = outside.same_length ∙ was.size ∙ sym same.same_length;
        kept = λ place none. elim (cases_lt place at) [
          | inl below ↦ outside.below place below ∙ was.kept place (λ here. none (inr here))
              ∙ sym (same.below place below)
          | inr above ↦ elim (cases_lt place (at + n)) [
            | inl inside ↦ absurd (none (inl (above, inside)))
            | inr behind ↦ outside.above place behind ∙ was.kept place (λ here. none (inr here))
                ∙ sym (same.above place behind)
          ]
        ];
      }

  torn_since : (image : List ℕ) → IsCrashImageSince after.bytes after.calls after.replaced (length memory.calls) image
      → Torn at n (IsCrashImage memory.bytes memory.calls) image
  torn_since image left =
      ⊎_elim (torn_from_now image)
      (λ (past : IsCrashImageSince memory.bytes memory.calls memory.replaced (length memory.calls) image). (
        image,
        only_now memory.bytes memory.calls memory.replaced (length memory.calls) image
            (omega arith) past,
        SameOutside-refl at n image,
      ))
      (since_cases after.bytes memory.bytes (Write at n) memory.calls after.replaced memory.replaced undone_written
      replaced_before_written (length memory.calls) image left)

  pub IsWrite-written : {T E : Type 0} (value : T) → CountsFit memory
      → IsWrite {T = T} {E = E} (memory_state memory) (memory_state after) at bytes (Ok value)
  IsWrite-written value fit =
      let splits = since_splits after.bytes memory.bytes (Write at n)
      memory.calls after.replaced memory.replaced undone_written replaced_before_written in
      let joins = since_joins after.bytes memory.bytes (Write at n)
      memory.calls after.replaced memory.replaced undone_written replaced_before_written in
      record {
        call = record {
          size = same.same_length;
          observable = refl;
          faults = refl;
          rise = omega arith;
          writes = omega (arith, fit.writes);
          syncs = omega arith;
          last_fault = fit.faults;
          last_write = omega arith;
          last_sync = fit.syncs;
        };
        observed = λ _. record {
          time = record { later = omega arith; since = λ t image le. (splits t image le, joins t image le) };
          written = refl;
          outside = same;
          during = torn_since;
          pending = now_from_torn;
          still_pending = λ whole was.
              (whole, now_from_torn whole (whole, was, SameOutside-refl at n whole), SameOutside-refl at n whole);
          write_count = refl;
          sync_count = refl;
        };
      }

  -- what is kept still agrees
  pub IsConsistent-written : (calls_capacity replaced_capacity calls_capacity_now replaced_capacity_now : ℕ)
      → n + 16 ≤ room_left memory → calls_capacity ≤ calls_capacity_now → replaced_capacity ≤ replaced_capacity_now
      → IsConsistent memory calls_capacity replaced_capacity
      → IsConsistent after calls_capacity_now replaced_capacity_now
  IsConsistent-written calls_capacity replaced_capacity calls_capacity_now replaced_capacity_now room calls_le
      replaced_le kept = record {
        synced = record {
          size = kept.synced.size ∙ sym same.same_length;
          kept = λ place none. elim (cases_lt place at) [
            | inl below ↦ kept.synced.kept place (λ here. none (inr here)) ∙ sym (same.below place below)
            | inr above ↦ elim (cases_lt place (at + n)) [
              | inl inside ↦ absurd (none (inl (above, inside)))
              | inr behind ↦ kept.synced.kept place (λ here. none (inr here)) ∙ sym (same.above place behind)
            ]
          ];
        };
        within = (
          omega (arith, same.same_length),
          subst (λ (size : ℕ). LieWithin size memory.calls)
              (sym same.same_length) kept.within,
        );
        fits = omega (arith, kept.fits, length-append memory.replaced range, length-range);
        calls_fit = omega (arith, kept.calls_fit);
        replaced_fit = omega (arith, kept.replaced_fit);
      }

-- the same, of lists that are known to be those
pub IsConsistent-written_as : (memory : Memory) (at : ℕ) (written_bytes bytes : List ℕ) (calls : List Call)
    (replaced : List ℕ) (writes : ℕ) (calls_capacity replaced_capacity calls_capacity_now replaced_capacity_now : ℕ)
    → at + length written_bytes ≤ length memory.bytes → bytes ≡ overwrite memory.bytes at written_bytes
    → calls ≡ Write at (length written_bytes) ∷ memory.calls
    → replaced ≡ memory.replaced ++ take (length written_bytes) (drop at memory.bytes)
    → length written_bytes + 16 ≤ room_left memory → calls_capacity ≤ calls_capacity_now
    → replaced_capacity ≤ replaced_capacity_now
    → IsConsistent memory calls_capacity replaced_capacity
    → IsConsistent (record memory { bytes = bytes; calls = calls; replaced = replaced; writes = writes })
    calls_capacity_now replaced_capacity_now
IsConsistent-written_as memory at written_bytes bytes calls replaced writes calls_capacity replaced_capacity
    calls_capacity_now replaced_capacity_now within same_bytes same_calls same_replaced room calls_le replaced_le kept =
    let done = IsConsistent-written memory at written_bytes within calls_capacity replaced_capacity calls_capacity_now
    replaced_capacity_now room calls_le replaced_le kept in
    rw (same_bytes, same_calls, same_replaced) (record {
      synced = done.synced;
      within = done.within;
      fits = done.fits;
      calls_fit = done.calls_fit;
      replaced_fit = done.replaced_fit;
    })

pub IsConsistent-flushed_as : (memory : Memory) (synced : List ℕ) (calls : List Call) (syncs : ℕ)
    (calls_capacity replaced_capacity calls_capacity_now : ℕ) → synced ≡ memory.bytes → calls ≡ Sync ∷ memory.calls
    → 16 ≤ room_left memory
    → calls_capacity ≤ calls_capacity_now → IsConsistent memory calls_capacity replaced_capacity
    → IsConsistent (record memory { synced = synced; calls = calls; syncs = syncs })
    calls_capacity_now replaced_capacity
IsConsistent-flushed_as memory synced calls syncs calls_capacity replaced_capacity calls_capacity_now same_synced
    same_calls room calls_le kept =
    rw (same_synced, same_calls) (record {
      synced = record { size = refl; kept = λ place none. refl };
      within = kept.within;
      fits = omega (arith, kept.fits);
      calls_fit = omega (arith, kept.calls_fit);
      replaced_fit = kept.replaced_fit;
    })

-- and where only the counts are others
pub IsConsistent-counted : (memory : Memory) (faults writes syncs : ℕ) (calls_capacity replaced_capacity : ℕ)
    → IsConsistent memory calls_capacity replaced_capacity
    → IsConsistent (record memory { faults = faults; writes = writes; syncs = syncs }) calls_capacity replaced_capacity
IsConsistent-counted memory faults writes syncs calls_capacity replaced_capacity kept = record {
  synced = kept.synced;
  within = kept.within;
  fits = kept.fits;
  calls_fit = kept.calls_fit;
  replaced_fit = kept.replaced_fit;
}

-- whether the room suffices, told by the answer
pub full_told : (free room need : ℕ) → free ≡ room → need ≤ free
    → (false ≡ true → room < need) × (room < need → false ≡ true)
full_told free room need is enough = (λ full. absurd (false≢true full), λ few. absurd (omega arith))

pub room_for : (free n : ℕ) → 16 ≤ free → n ≤ free - 16 → n + 16 ≤ free
room_for free n some enough = omega arith

pub IsSync-flushed_as : {T E : Type 0} (memory : Memory) (synced : List ℕ) (calls : List Call) (syncs : ℕ) (value : T)
    → calls ≡ Sync ∷ memory.calls → syncs ≡ raised memory.syncs → CountsFit memory
    → IsSync {T = T} {E = E} (memory_state memory)
    (memory_state (record memory { synced = synced; calls = calls; syncs = syncs })) (Ok value)
IsSync-flushed_as memory synced calls syncs value same_calls same_syncs fit =
    rw (same_calls, same_syncs) (IsSync-flushed memory value fit)

pub IsWrite-written_as : {T E : Type 0} (memory : Memory) (at : ℕ) (written_bytes bytes : List ℕ) (calls : List Call)
    (replaced : List ℕ) (writes : ℕ) (value : T) → at + length written_bytes ≤ length memory.bytes
    → bytes ≡ overwrite memory.bytes at written_bytes → calls ≡ Write at (length written_bytes) ∷ memory.calls
    → replaced ≡ memory.replaced ++ take (length written_bytes) (drop at memory.bytes)
    → writes ≡ raised memory.writes → CountsFit memory
    → IsWrite {T = T} {E = E} (memory_state memory)
    (memory_state (record memory { bytes = bytes; calls = calls; replaced = replaced; writes = writes })) at
    written_bytes (Ok value)
IsWrite-written_as memory at written_bytes bytes calls replaced writes value within same_bytes same_calls
    same_replaced same_writes fit =
    rw (same_bytes, same_calls, same_replaced, same_writes) (IsWrite-written memory at written_bytes within value fit)
