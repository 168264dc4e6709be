-- What the view on the slots means, and what its calls keep of the disk below.
use Rattle.std.specs.Prelude.{◌≡◌, ℕ, zero, suc, ◌+◌, ◌*◌, ◌<◌, ◌≤◌, List, map, length, drop, true, ◌&&◌, Bool}
use Rattle.std.specs.Prelude.{if◌then◌else◌}
use Rattle.std.proofs.Common.{refl, ap, ◌∙◌, sym, arith, inl, inr, length-take, length-drop}
use Rattle.std.proofs.lemmas.Bool.{cases_Bool}
use Rattle.std.proofs.lemmas.Option.{none-some, same_Some}
use Rattle.store_model.specs.Parameters.{Parameters, shadow_at, table_at, image_len, block_len}
use Rattle.store_model.specs.Lists.{numbers_from, numbers_below}
use Rattle.store_model.specs.Images.{bytes_at, is_flag_set, is_marked, recovered_slot}
use Rattle.store_base.specs.SlotsState.{SlotsState, AreWhole}
use Rattle.disk_model.specs.DiskState.{DiskState, IsObservable, IsSound}
use Rattle.gate_journal.specs.Places.{ReadsOnly}
use Rattle.gate_journal.specs.ReadingLaws.{ReadsOnly-refl, ReadsOnly-trans}

-- the slots of what the disk recovers to; the faults are the disk's, and no call takes memory
abbrev pub viewed : ℕ → DiskState → SlotsState
viewed slots disk = record {
  count = slots;
  is_observable = disk.is_observable;
  slots = map (recovered_slot slots disk.bytes) (numbers_below slots);
  faults = disk.faults;
  takes_none = true;
}

-- the first blocks of the buffer are what recovery leaves in so many slots, from this one on
abbrev pub HasRecovered : ℕ → List ℕ → ℕ → List ℕ → ℕ → Type 0
HasRecovered slots image first buffer count = (i : ℕ) → i < count
    → recovered_slot slots image (first + i) ≡ bytes_at buffer (block_len * i) block_len

length-map-numbers : (f : ℕ → List ℕ) (first count : ℕ) → length (map f (numbers_from first count)) ≡ count
unfolding numbers_from
length-map-numbers f first zero = refl
length-map-numbers f first (suc count) = ap suc (length-map-numbers f (suc first) count)

-- there are as many slots as their number says; it stands here since a trait's law is proved by it
pub viewed_count : (slots : ℕ) (disk : DiskState) → length (viewed slots disk).slots ≡ slots
viewed_count slots disk = length-map-numbers (recovered_slot slots disk.bytes) 0 slots

slot_long : (slots : ℕ) (image : List ℕ) (i : ℕ) → length image ≡ image_len slots → i < slots
    → length (recovered_slot slots image i) ≡ block_len
unfolding recovered_slot shadow_at table_at image_len
slot_long slots image i long below =
    let part : (at : ℕ) → at + block_len ≤ length image → length (bytes_at image at block_len) ≡ block_len =
    λ at within. omega (arith, length-take block_len (drop at image), length-drop at image, within) in
    elim (cases_Bool (is_flag_set image && is_marked image i)) [
      | inl is_so
          ↦ ap (λ (b : Bool). length (bytes_at image (if b then shadow_at slots i else table_at slots i) block_len))
          is_so ∙ part (shadow_at slots i) (omega (arith, long))
      | inr not_so
          ↦ ap (λ (b : Bool). length (bytes_at image (if b then shadow_at slots i else table_at slots i) block_len))
          not_so ∙ part (table_at slots i) (omega (arith, long))
    ]

whole_numbers : (f : ℕ → List ℕ) (first count : ℕ) → ((j : ℕ) → j < first + count → length (f j) ≡ block_len)
    → AreWhole (map f (numbers_from first count))
unfolding numbers_from
whole_numbers f first zero whole i slot is = absurd (none-some slot is)
whole_numbers f first (suc count) whole zero slot is =
    ap length (sym (same_Some (f first) slot is)) ∙ whole first (omega arith)
whole_numbers f first (suc count) whole (suc i) slot is =
    whole_numbers f (suc first) count (λ j low. whole j (omega arith)) i slot is

-- each slot has the bytes of a block, where the disk has the length of an image
pub viewed_whole : (slots : ℕ) (disk : DiskState) → IsSound disk → disk.size ≡ image_len slots
    → AreWhole (viewed slots disk).slots
viewed_whole slots disk sound sized =
    whole_numbers (recovered_slot slots disk.bytes) 0 slots
    (λ j low. slot_long slots disk.bytes j (sound.size ∙ sized) (omega arith))

-- Calls of a view keep its parameters and how long its disk is, and only read where that tells its bytes: nothing is
-- written or synced by them, and nothing is pending but what was. No count of the disk falls.
pub record KeepsView (old_params new_params : Parameters) (old new : DiskState) : Type 0 where
  pub params : new_params ≡ old_params
  pub size : new.size ≡ old.size
  pub observable : new.is_observable ≡ old.is_observable
  pub rise : old.faults ≤ new.faults
  pub writes : old.writes ≤ new.writes
  pub syncs : old.syncs ≤ new.syncs
  pub reads : IsObservable old → ReadsOnly old new

pub KeepsView-refl : (params : Parameters) (disk : DiskState) → (IsObservable disk → IsSound disk)
    → KeepsView params params disk disk
KeepsView-refl params disk sound = record {
  params = refl;
  size = refl;
  observable = refl;
  rise = omega arith;
  writes = omega arith;
  syncs = omega arith;
  reads = λ observable. ReadsOnly-refl disk (sound observable);
}

pub KeepsView-trans : (old_params mid_params new_params : Parameters) (old mid new : DiskState)
    → KeepsView old_params mid_params old mid → KeepsView mid_params new_params mid new
    → KeepsView old_params new_params old new
KeepsView-trans old_params mid_params new_params old mid new first after = record {
  params = after.params ∙ first.params;
  size = after.size ∙ first.size;
  observable = after.observable ∙ first.observable;
  rise = omega (arith, first.rise, after.rise);
  writes = omega (arith, first.writes, after.writes);
  syncs = omega (arith, first.syncs, after.syncs);
  reads = λ observable. ReadsOnly-trans old mid new (first.reads observable)
      (after.reads (first.observable ∙ observable));
}
