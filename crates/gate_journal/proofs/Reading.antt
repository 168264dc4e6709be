-- Calls that read only.
use Rattle.std.proofs.Common.{◌≡◌, ℕ, ◌+◌, ◌-◌, ◌<◌, ◌≤◌, List, length, take, drop, slice_index, sym, ap, ◌∙◌, subst}
use Rattle.std.proofs.Common.{arith, Result, Ok, inl, inr, get_or-take, get_or-drop}
use Rattle.std.proofs.lemmas.Bool.{cases_lt}
use Rattle.std.proofs.lemmas.List.{ext_get_or, length-replicate, get_or-replicate, length-take-le, length-drop}
use Rattle.store_model.specs.Lists.{zeros}
use Rattle.disk_model.specs.DiskState.{DiskState, IsObservable, IsDurable, IsSound}
use Rattle.disk_model.specs.DiskCalls.{IsRead, overwrite}
use Rattle.disk_model.proofs.Images.{take-drop-overwrite}
use Rattle.disk_model.proofs.Crashes.{LeavesOnly-weaken}
use Rattle.gate_journal.specs.Places.{IsApart, SameAt, TornOutside, Keeps, Reaches, ReadsOnly, IsZeroAt}
pub use Rattle.gate_journal.specs.ReadingLaws.{ReadsOnly-refl, ReadsOnly-trans}
use Rattle.gate_journal.proofs.Places.{SameAt-refl, Keeps-trans, Keeps-weaken}

pub ReadsOnly-read : {T E : Type 0} (old new : DiskState) (result : Result T E) (at : ℕ) (buffer : List ℕ)
    → IsObservable old → IsRead old new at buffer result → ReadsOnly old new
ReadsOnly-read old new result at buffer observable read =
    let effect = read.observed observable in
    record {
      leaves = record { time = effect.time; each = effect.during };
      bytes = effect.bytes;
      crash = effect.crash;
      write_count = effect.write_count;
      sync_count = effect.sync_count;
    }

pub Keeps-reads : (places : ℕ → Type 0) (old new : DiskState) → ReadsOnly old new → Keeps places old new
Keeps-reads places old new reads = record {
  leaves = LeavesOnly-weaken old new old.crash_images (TornOutside places old.crash_images)
      (λ image left. (image, left, SameAt-refl places image)) reads.leaves;
  reads = subst (SameAt places old.bytes) (sym reads.bytes) (SameAt-refl places old.bytes);
}

pub IsDurable-reads : (old new : DiskState) → IsDurable old → ReadsOnly old new → IsDurable new
IsDurable-reads old new durable reads image here = durable image ((reads.crash image).0 here) ∙ sym reads.bytes

-- the bytes that were read are zero where the buffer is
pub zero_read : (image buffer : List ℕ) (at : ℕ) → buffer ≡ take (length buffer) (drop at image)
    → IsZeroAt 0 (length buffer) buffer → IsZeroAt at (length buffer) image
zero_read image buffer at is zero place low high =
    let few : place - at < length buffer = omega arith in
    let there : place ≡ at + (place - at) = omega arith in
    ap (slice_index image) there ∙ sym (get_or-drop at image (place - at) 0)
    ∙ sym (get_or-take (length buffer) (drop at image) (place - at) 0 few)
    ∙ ap (λ (l : List ℕ). slice_index l (place - at)) (sym is) ∙ zero (place - at) (omega arith) (omega arith)

pub zero_buffer : (image buffer : List ℕ) (at : ℕ) → buffer ≡ take (length buffer) (drop at image)
    → IsZeroAt at (length buffer) image → IsZeroAt 0 (length buffer) buffer
zero_buffer image buffer at is zero place low high =
    let few : place < length buffer = omega arith in
    ap (λ (l : List ℕ). slice_index l place) is ∙ get_or-take (length buffer) (drop at image) place 0 few
    ∙ get_or-drop at image place 0 ∙ zero (at + place) (omega arith) (omega arith)

-- bytes of which each is zero are zeros
pub zero_zeros : (bytes : List ℕ) → IsZeroAt 0 (length bytes) bytes → bytes ≡ zeros (length bytes)
zero_zeros bytes zero = ext_get_or 0 bytes (zeros (length bytes))
    (sym (length-replicate {A = ℕ} (length bytes) 0)) λ i low. zero i (omega arith) (omega arith)
    ∙ sym (get_or-replicate (length bytes) i 0 0 low)

pub zeros_zero : (bytes : List ℕ) → bytes ≡ zeros (length bytes) → IsZeroAt 0 (length bytes) bytes
zeros_zero bytes is place low high = ap (λ (l : List ℕ). slice_index l place) is
    ∙ get_or-replicate (length bytes) place 0 0 (omega arith)

-- a part of the bytes is zeros where they are zero there
pub zero_part : (bytes : List ℕ) (start n : ℕ) → n ≤ length bytes - start
    → take n (drop start bytes) ≡ zeros (length (take n (drop start bytes))) → IsZeroAt start n bytes
zero_part bytes start n within zero =
    let part = take n (drop start bytes) in
    let long : length part ≡ n = length-take-le n (drop start bytes) (omega (arith, within, length-drop start bytes)) in
    subst (λ (m : ℕ). IsZeroAt start m bytes) long
    (zero_read bytes part start (ap (λ (m : ℕ). take m (drop start bytes)) (sym long)) (zeros_zero part zero))

pub part_zero : (bytes : List ℕ) (start n : ℕ) → n ≤ length bytes - start → IsZeroAt 0 (length bytes) bytes
    → take n (drop start bytes) ≡ zeros (length (take n (drop start bytes)))
part_zero bytes start n within zero =
    let part = take n (drop start bytes) in
    let long : length part ≡ n = length-take-le n (drop start bytes) (omega (arith, within, length-drop start bytes)) in
    zero_zeros part (zero_buffer bytes part start (ap (λ (m : ℕ). take m (drop start bytes)) (sym long))
    (λ place low high. zero place (omega arith) (omega (arith, high, long, within, low))))

-- zeros that were written
pub zero_written : (old bytes : List ℕ) (at n : ℕ) → bytes ≡ zeros n → at + n ≤ length old
    → IsZeroAt at n (overwrite old at bytes)
zero_written old bytes at n is within =
    let long : length bytes ≡ n = ap length is ∙ length-replicate n 0 in
    let zero : IsZeroAt 0 (length bytes) bytes = λ place low high. ap (λ (l : List ℕ). slice_index l place) is
    ∙ get_or-replicate n place 0 0 (omega arith) in
    subst (λ (m : ℕ). IsZeroAt at m (overwrite old at bytes)) long
    (zero_read (overwrite old at bytes) bytes at (sym (take-drop-overwrite old at bytes (omega arith))) zero)

-- a range that is zero, and one behind it
pub zero_more : (image : List ℕ) (at n m : ℕ) → IsZeroAt at n image → IsZeroAt (at + n) m image
    → IsZeroAt at (n + m) image
zero_more image at n m first then place low high = elim (cases_lt place (at + n)) [
  | inl before ↦ first place low before
  | inr behind ↦ then place behind (omega arith)
]

-- a range that was zero, and that was not written
pub zero_kept : (places : ℕ → Type 0) (at n : ℕ) (a b : List ℕ)
    → ((place : ℕ) → at ≤ place → place < at + n → places place) → SameAt places a b → IsZeroAt at n a → IsZeroAt at n b
zero_kept places at n a b within same zero place low high =
    same.same place (within place low high) ∙ zero place low high

pub apart_within : (from total n at m : ℕ) → at ≡ from + n → n + m ≤ total → (place : ℕ)
    → IsApart from total place → IsApart at m place
apart_within from total n at m there fits place (inl low) = inl (omega arith)
apart_within from total n at m there fits place (inr high) = inr (omega arith)

-- one range more is erased
pub erase_step : {E : Type 0} (from total n at m : ℕ) (old mid new : DiskState) → IsSound mid → at ≡ from + n
    → n + m ≤ total → Keeps (IsApart from total) old mid → IsZeroAt from n mid.bytes
    → Reaches {T = Unit {0}} {E = E} (IsApart at m) (IsZeroAt at m) mid new (Ok tt)
    → Keeps (IsApart from total) old new × IsZeroAt from (n + m) new.bytes
erase_step from total n at m old mid new sound there fits keeps zero reaches = (
  Keeps-trans (IsApart from total) old mid new sound keeps
      (Keeps-weaken (IsApart at m) (IsApart from total) mid new
      (apart_within from total n at m there fits) reaches.keeps),
  zero_more new.bytes from n m
      (zero_kept (IsApart at m) from n mid.bytes new.bytes (λ place low high. inl (omega arith))
      reaches.keeps.reads zero) (subst (λ (start : ℕ). IsZeroAt start m new.bytes) there reaches.done),
)

-- a byte that was read
pub byte_read : (image buffer : List ℕ) (at i : ℕ) → buffer ≡ take (length buffer) (drop at image) → i < length buffer
    → slice_index buffer i ≡ slice_index image (at + i)
byte_read image buffer at i is low = ap (λ (l : List ℕ). slice_index l i) is
    ∙ get_or-take (length buffer) (drop at image) i 0 low ∙ get_or-drop at image i 0
