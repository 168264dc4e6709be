-- The header of an image as it is read, and its slots.
use Rattle.std.proofs.Common.{◌≡◌, ℕ, ◌+◌, ◌-◌, ◌*◌, ◌/◌, ◌≤◌, List, length, take, drop, ◌++◌, slice_index}
use Rattle.std.proofs.Common.{true, false, not, ◌==◌, ◌&&◌, if◌then◌else◌, Bool, refl, sym, ap, ◌∙◌, arith}
use Rattle.std.specs.Int.{w32, from_be_bytes}
use Rattle.std.proofs.lemmas.Nat.{from_be_bytes-to_be_bytes_4}
use Rattle.std.proofs.lemmas.List.{drop-set-add, take-set-le, take_at, take-take, drop-take, drop-drop}
use Rattle.store_model.specs.Lists.{zero_filled}
use Rattle.store_model.specs.Parameters.{Parameters, IsParameters, mark_at, shadow_at, table_at, image_len}
use Rattle.store_model.specs.Images.{header, bytes_at, is_flag_set, is_marked, recovered_slot, viewed_header}
use Rattle.gate_journal.specs.Headers.{as_read, IsImageWith}
use Rattle.gate_journal.specs.ViewState.{HasRecovered}
use Rattle.gate_journal.proofs.Areas.{marks_end, shadow_end, table_end}

-- the version's byte does not lie in the number of slots
slots_as_read : (marked : Bool) (block : List ℕ) → take 4 (drop 8 (as_read marked block)) ≡ take 4 (drop 8 block)
slots_as_read true block = ap (take 4) (drop-set-add 8 block 6 2) ∙ take-set-le 4 (drop 8 block) 6 2 (omega arith)
slots_as_read false block = refl

-- so the number that stands there is that of the parameters
pub slots_named : (p : Parameters) (marked : Bool) (block : List ℕ) → IsParameters p → header p ≡ as_read marked block
    → from_be_bytes w32 (take 4 (drop 8 block)) ≡ p.slots
unfolding header zero_filled
slots_named p marked block valid is =
    ap (from_be_bytes w32) (sym (slots_as_read marked block) ∙ sym (ap (λ xs. take 4 (drop 8 xs)) is))
    ∙ from_be_bytes-to_be_bytes_4 p.slots (omega (arith, valid.slots_in_range))

-- with the flag set the mark alone says whether the journal makes the image one of version 2
pub marked_by_mark : (slots : ℕ) (image : List ℕ) (at : ℕ) → is_flag_set image ≡ true → at ≡ mark_at slots
    → (set : Bool) → set ≡ not (slice_index image at == 0) → set ≡ (is_flag_set image && is_marked image slots)
unfolding is_marked
marked_by_mark slots image at flag there set is =
    is ∙ ap (λ (n : ℕ). not (slice_index image n == 0)) there ∙ ap (λ (b : Bool). b && is_marked image slots) (sym flag)

-- flag and mark say how the header of an image is read
pub viewed_as_read : (slots : ℕ) (image : List ℕ)
    → viewed_header slots image ≡ as_read (is_flag_set image && is_marked image slots) (take 4096 image)
unfolding viewed_header
viewed_as_read slots image = refl

module _ (image block : List ℕ) (read : block ≡ take 4096 image) (p : Parameters) where
  -- an image with the header of these parameters names their slots
  pub named_by_header : IsImageWith image p → from_be_bytes w32 (take 4 (drop 8 block)) ≡ p.slots
  named_by_header has =
      slots_named p (is_flag_set image && is_marked image p.slots) block has.names.in_range
      (sym has.names.header_is ∙ viewed_as_read p.slots image
      ∙ ap (as_read (is_flag_set image && is_marked image p.slots)) (sym read))

  module _ (slots : ℕ) (marked : Bool) (slots_is : slots ≡ p.slots)
      (marked_is : marked ≡ (is_flag_set image && is_marked image slots)) where
    block_as_read : as_read marked block ≡ viewed_header p.slots image
    block_as_read =
        ap (λ (b : Bool). as_read b block) marked_is ∙ ap (as_read (is_flag_set image && is_marked image slots)) read
        ∙ ap (λ (n : ℕ). as_read (is_flag_set image && is_marked image n) (take 4096 image)) slots_is
        ∙ sym (viewed_as_read p.slots image)

    -- the header that was read is the image's
    pub header_found : IsParameters p → header p ≡ as_read marked block
        → length image ≡ image_len p.slots → IsImageWith image p
    header_found valid is long = record {
      names = record { in_range = valid; header_is = sym (is ∙ block_as_read) };
      length_is = long;
    }

    -- and no other
    pub header_read : IsImageWith image p → header p ≡ as_read marked block
    header_read has = sym (block_as_read ∙ has.names.header_is)

-- a disk of an image's length has a header at least, a flag and a mark behind the last slot's
pub header_end : (slots : ℕ) → 4096 ≤ image_len slots
header_end slots = omega (arith, table_end slots, shadow_end slots, marks_end slots)

-- with the flag clear the table's slots are what recovery leaves, and lie one behind the other
pub HasRecovered-table : (slots : ℕ) (image buffer : List ℕ) (first : ℕ) → is_flag_set image ≡ false
    → buffer ≡ take (length buffer) (drop (table_at slots first) image)
    → HasRecovered slots image first buffer (length buffer / 4096)
unfolding recovered_slot table_at
HasRecovered-table slots image buffer first flag read i below =
    let long = length buffer in
    let at = table_at slots first in
    let there : table_at slots (first + i) ≡ at + 4096 * i = omega arith in
    let left = long - 4096 * i in
    let parts : long ≡ 4096 * i + left = omega (arith, below) in
    let room : 4096 ≤ left = omega (arith, below) in
    ap (λ (b : Bool). bytes_at image
    (if b && is_marked image (first + i) then shadow_at slots (first + i) else table_at slots (first + i)) 4096) flag
    ∙ ap (λ (n : ℕ). bytes_at image n 4096) there
    ∙ ap (take 4096) (sym (drop-drop (4096 * i) at image))
    ∙ sym (take-take 4096 left (drop (4096 * i) (drop at image)) room)
    ∙ ap (take 4096) (sym (drop-take (4096 * i) left (drop at image)))
    ∙ ap (λ (n : ℕ). bytes_at (take n (drop at image)) (4096 * i) 4096) (sym parts)
    ∙ ap (λ (l : List ℕ). bytes_at l (4096 * i) 4096) (sym read)

-- and where the buffer has what recovery leaves in one, that is the first
pub HasRecovered-one : (slots : ℕ) (image bytes rest : List ℕ) (first : ℕ) → length bytes ≡ 4096
    → recovered_slot slots image first ≡ bytes → HasRecovered slots image first (bytes ++ rest) 1
HasRecovered-one slots image bytes rest first long is i below =
    let here : first + i ≡ first = omega (arith, below) in
    let from : 0 ≡ 4096 * i = omega (arith, below) in
    ap (recovered_slot slots image) here ∙ is ∙ sym (take_at bytes rest 4096 long)
    ∙ ap (λ (n : ℕ). bytes_at (bytes ++ rest) n 4096) from
