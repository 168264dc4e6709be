-- What the functions on a record of calls do.
use Rattle.std.specs.Prelude.{◌≡◌, ℕ, ◌+◌, ◌*◌, ◌<◌, ◌≤◌, List, [], ◌∷◌, length, slice_index}
use Rattle.disk_model.specs.declared.record.Call.{Call}
use Rattle.disk_model.specs.declared.record.Call.TheVariants.{Write, Sync}
use Rattle.disk_model.specs.Memory.{Memory, IsPending, IsCrashImage}

-- each write of the record lies within so many bytes
abbrev pub LieWithin : ℕ → List Call → Type 0
LieWithin size [] = Unit {0}
LieWithin size (Sync ∷ earlier) = LieWithin size earlier
LieWithin size (Write at len ∷ earlier) = (at + len ≤ size) × LieWithin size earlier

-- the pending bytes are copied from one list to another
pub record CopiesPending (calls : List Call) (source old new : List ℕ) : Type 0 where
  pub size : length new ≡ length old
  pub copied : (place : ℕ) → place < length old → IsPending calls place
      → slice_index new place ≡ slice_index source place
  pub kept : (place : ℕ) → ¬ IsPending calls place → slice_index new place ≡ slice_index old place

-- what is kept of a disk in memory agrees, and there is memory for as many calls as its room allows
pub record IsConsistent (memory : Memory) (calls_capacity replaced_capacity : ℕ) : Type 0 where
  pub synced : IsCrashImage memory.bytes memory.calls memory.synced
  pub within : LieWithin (length memory.bytes) memory.calls
  pub fits : 16 * length memory.calls + length memory.replaced ≤ memory.room
  pub calls_fit : memory.room < 16 * calls_capacity + 16
  pub replaced_fit : memory.room ≤ replaced_capacity
