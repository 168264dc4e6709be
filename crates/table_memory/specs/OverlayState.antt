-- Slots of a table on a disk, of which those that were written are kept in memory.
use Rattle.std.specs.Prelude.{◌≡◌, ℕ, zero, suc, ◌+◌, ◌<◌, List, map, length, drop, false, Option, Some, None}
use Rattle.std.specs.Map.{lookup}
use Rattle.std.specs.BTreeMap.{is_at}
use Rattle.std.specs.Ordering.{nat_cmp}
use Rattle.std.proofs.Common.{refl, ap, ◌∙◌, sym, arith, length-take, length-drop}
use Rattle.std.proofs.lemmas.Option.{none-some, same_Some}
use Rattle.store_model.specs.Parameters.{table_at, image_len}
use Rattle.store_model.specs.Lists.{numbers_from, numbers_below}
use Rattle.store_base.specs.SlotsState.{SlotsState, AreWhole}
use Rattle.disk_model.specs.DiskState.{DiskState, IsSound}
use Rattle.gate_journal.specs.Phases.{table_slot}

-- the bytes that were written to slot i, if it was
abbrev pub touched_at : List (ℕ × List ℕ) → ℕ → Option (List ℕ)
touched_at touched i = lookup (is_at (nat_cmp i)) touched

-- these bytes, and others where there are none
abbrev pub bytes_or : Option (List ℕ) → List ℕ → List ℕ
bytes_or None below = below
bytes_or (Some bytes) below = bytes

-- slot i over an image
abbrev pub slot_over : ℕ → List (ℕ × List ℕ) → List ℕ → ℕ → List ℕ
slot_over slots touched image i = bytes_or (touched_at touched i) (table_slot slots image i)

-- the slots over a disk; the faults are the disk's
abbrev pub overlaid : ℕ → List (ℕ × List ℕ) → DiskState → SlotsState
overlaid slots touched disk = record {
  count = slots;
  is_observable = disk.is_observable;
  slots = map (slot_over slots touched disk.bytes) (numbers_below slots);
  faults = disk.faults;
  takes_none = false;
}

length-map-numbers : (f : ℕ → List ℕ) (first count : ℕ) → length (map f (numbers_from first count)) ≡ count
unfolding numbers_from
length-map-numbers f first zero = refl
length-map-numbers f first (suc count) = ap suc (length-map-numbers f (suc first) count)

-- there are as many slots as their number says; it stands here since a trait's law is proved by it
pub overlaid_count : (slots : ℕ) (touched : List (ℕ × List ℕ)) (disk : DiskState)
    → length (overlaid slots touched disk).slots ≡ slots
overlaid_count slots touched disk = length-map-numbers (slot_over slots touched disk.bytes) 0 slots

whole_numbers : (f : ℕ → List ℕ) (first count : ℕ) → ((j : ℕ) → j < first + count → length (f j) ≡ 4096)
    → AreWhole (map f (numbers_from first count))
unfolding numbers_from
whole_numbers f first zero whole i slot is = absurd (none-some slot is)
whole_numbers f first (suc count) whole zero slot is =
    ap length (sym (same_Some (f first) slot is)) ∙ whole first (omega arith)
whole_numbers f first (suc count) whole (suc i) slot is =
    whole_numbers f (suc first) count (λ j low. whole j (omega arith)) i slot is

table_slot_long : (slots : ℕ) (image : List ℕ) (i : ℕ) → length image ≡ image_len slots → i < slots
    → length (table_slot slots image i) ≡ 4096
unfolding table_at image_len
table_slot_long slots image i long below =
    omega (arith, length-take 4096 (drop (table_at slots i) image), length-drop (table_at slots i) image, long)

either_long : (bytes : Option (List ℕ)) (below : List ℕ) → ((slot : List ℕ) → bytes ≡ Some slot → length slot ≡ 4096)
    → length below ≡ 4096 → length (bytes_or bytes below) ≡ 4096
either_long None below filled long = long
either_long (Some slot) below filled long = filled slot refl

-- each slot has the bytes of a block, where the disk has the length of an image
pub overlaid_whole : (slots : ℕ) (touched : List (ℕ × List ℕ)) (disk : DiskState) → IsSound disk
    → disk.size ≡ image_len slots → ((i : ℕ) (slot : List ℕ) → touched_at touched i ≡ Some slot → length slot ≡ 4096)
    → AreWhole (overlaid slots touched disk).slots
overlaid_whole slots touched disk sound sized filled =
    whole_numbers (slot_over slots touched disk.bytes) 0 slots
    (λ j low. either_long (touched_at touched j) (table_slot slots disk.bytes j) (filled j)
    (table_slot_long slots disk.bytes j (sound.size ∙ sized) (omega arith)))
