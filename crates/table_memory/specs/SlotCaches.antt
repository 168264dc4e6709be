-- Slots of a table that are kept in memory.
use Rattle.std.specs.Prelude.{◌≡◌, ◌≢◌, ◌⊎◌, ℕ, ◌<◌, ◌≤◌, List, [], length, slice_index_or, Option, Some, Result, OnOk}
use Rattle.std.specs.Prelude.{IfOk, nat_eq}
use Rattle.std.specs.Map.{lookup}
use Rattle.store_base.specs.declared.fault.DiskFault.{DiskFault}
use Rattle.store_model.specs.Parameters.{block_len}
use Rattle.disk_model.specs.DiskState.{DiskState, IsObservable}
use Rattle.gate_journal.specs.Changes as journal
use Rattle.gate_journal.specs.Phases.{table_slot}
use Rattle.gate_journal.specs.Places.{AreCalls, ReadsOnly}
use Rattle.lru.specs.LruCache.{LruCache}

-- slots with their numbers, that which was asked for last first
abbrev pub Kept : Type 0
Kept = List (ℕ × List ℕ)

-- how many slots are kept at most
abbrev pub most_kept : ℕ
most_kept = 64

-- no more slots are kept than may be, and there is room for so many
pub record KeepsFew (cache : LruCache ℕ (List ℕ)) : Type 0 where
  pub room : cache.cap ≡ most_kept
  pub few : length cache.entries ≤ most_kept

-- the bytes that are kept of slot i, if they are
abbrev pub kept_at : Kept → ℕ → Option (List ℕ)
kept_at kept i = lookup (nat_eq i) kept

-- the bytes fill a slot of the table, and are those of the slot where the disk tells its bytes
pub record IsTableSlot (slots : ℕ) (disk : DiskState) (i : ℕ) (slot : List ℕ) : Type 0 where
  pub within : i < slots
  pub long : length slot ≡ block_len
  pub is : IsObservable disk → slot ≡ table_slot slots disk.bytes i

-- each slot that is kept is the one that the table of the disk has under its number
abbrev pub IsSlotCacheOf : ℕ → DiskState → Kept → Type 0
IsSlotCacheOf slots disk kept = (i : ℕ) (slot : List ℕ) → kept_at kept i ≡ Some slot → IsTableSlot slots disk i slot

-- of each slot the same is kept, in whatever order
abbrev pub KeepsAll : Kept → Kept → Type 0
KeepsAll old new = (i : ℕ) → kept_at new i ≡ kept_at old i

-- no slot is kept that was not
abbrev pub KeepsNoMore : Kept → Kept → Type 0
KeepsNoMore old new = (i : ℕ) (slot : List ℕ) → kept_at new i ≡ Some slot → kept_at old i ≡ Some slot

-- no slot is kept but this one and those that were
abbrev pub KeepsOne : Kept → Kept → ℕ → List ℕ → Type 0
KeepsOne old new at slot = (i : ℕ) (other : List ℕ) → kept_at new i ≡ Some other
    → (kept_at old i ≡ Some other) ⊎ ((i ≡ at) × (other ≡ slot))

-- what is kept of this slot are these bytes, and of each other slot what was
abbrev pub Rewrites : Kept → Kept → ℕ → List ℕ → Type 0
Rewrites old new at slot = (i : ℕ) (other : List ℕ) → kept_at new i ≡ Some other
    → ((i ≢ at) × (kept_at old i ≡ Some other)) ⊎ ((i ≡ at) × (other ≡ slot))

-- slots with their new bytes, as a commit takes them
abbrev pub changes_of : List (ℕ × List ℕ) → journal.Changes
changes_of items = record {
  count = length items;
  slot = λ k. (slice_index_or items k (0, [])).0;
  bytes = λ k. (slice_index_or items k (0, [])).1;
}

-- The first n of the changed slots are kept with their new bytes, if they are, and of each other slot what was.
abbrev pub RewritesFirst : ℕ → journal.Changes → Kept → Kept → Type 0
RewritesFirst n changes old new = (i : ℕ) (other : List ℕ) → kept_at new i ≡ Some other
    → (((k : ℕ) → k < n → changes.slot k ≢ i) × (kept_at old i ≡ Some other))
    ⊎ ((k : ℕ) × (k < n) × (changes.slot k ≡ i) × (other ≡ changes.bytes k))

-- A slot of the table of a disk is read into a buffer, from what is kept of it or else from the disk.
pub record ReadsSlot (slots at : ℕ) (old new : DiskState) (kept : Kept) (buffer : List ℕ) {T : Type 0}
    (result : Result T DiskFault) : Type 0 where
  pub calls : AreCalls old new result
  pub reads : IsObservable old → ReadsOnly old new
  pub cached : IsSlotCacheOf slots new kept
  pub slot : IsObservable old → OnOk result (buffer ≡ table_slot slots old.bytes at)

-- something is told of a slot that is kept
pub record IsOfKept {T : Type 0} (kept : Kept) (at : ℕ) (IsOf : List ℕ → T → Type 0) (told : T) : Type 0 where
  pub slot : List ℕ
  pub there : kept_at kept at ≡ Some slot
  pub is : IsOf slot told

-- Something is told of a slot of the table of a disk, from what is kept of it or else from the disk.
pub record TellsOfSlot {T : Type 0} (slots at : ℕ) (old new : DiskState) (kept : Kept) (IsOf : List ℕ → T → Type 0)
    (result : Result T DiskFault) : Type 0 where
  pub calls : AreCalls old new result
  pub reads : IsObservable old → ReadsOnly old new
  pub cached : IsSlotCacheOf slots new kept
  pub told : IsObservable old → IfOk result (IsOf (table_slot slots old.bytes at))
