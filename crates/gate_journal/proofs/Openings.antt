-- What opening an image takes, with a journal and without one.
use Rattle.std.proofs.Common.{Result, OnOk, ◌≡◌, ℕ, zero, suc, ◌+◌, ◌-◌, ◌*◌, ◌<◌, ◌==◌, ◌⊎◌, Bool, true, false, not}
use Rattle.std.proofs.Common.{if◌then◌else◌, List, length, drop, slice_index, refl, sym, ap, ◌∙◌, arith, inl, inr}
use Rattle.std.proofs.lemmas.Bool.{false≢true, cases_Bool, cases_lt}
use Rattle.std.proofs.lemmas.List.{length-take, get_or-take, get_or-drop, get_or_past}
use Rattle.store_model.specs.Parameters.{gate_at, mark_blocks, table_at}
use Rattle.store_model.specs.Images.{bytes_at, is_flag_set, journal_len}
use Rattle.gate_journal.specs.Places.{IsZeroAt, Made}
use Rattle.gate_journal.specs.Phases.{HasEmptyJournal}
use Rattle.gate_journal.specs.Recovery.{clear_writes, clear_block_writes, redo_syncs}
use Rattle.gate_journal.proofs.Areas.{journal_end}
use Rattle.gate_journal.proofs.Counting.{clear_none, clear_one, clear_blocks_none, clear_blocks_more, redo_when}
use Rattle.gate_journal.specs.Costs.{has_journal, opening_writes, opening_syncs, MadeAtMost}
use Rattle.disk_model.specs.DiskState.{DiskState}

-- opening an image makes just these writes and syncs, and with a fault no more
pub record CountsOpening {T E : Type 0} (slots : ℕ) (old new : DiskState) (result : Result T E) : Type 0 where
  pub made : OnOk result (Made (opening_writes slots old.bytes) (opening_syncs slots old.bytes) old new)
  pub limit : MadeAtMost (opening_writes slots old.bytes) (opening_syncs slots old.bytes) old new

-- a range that is zero, as the bytes that are read of it
range_zero : (at n : ℕ) (image : List ℕ) → IsZeroAt at n image
    → IsZeroAt 0 (length (bytes_at image at n)) (bytes_at image at n)
range_zero at n image are_zero place low high =
    let few : place < n = omega (arith, high, length-take n (drop at image)) in
    get_or-take n (drop at image) place 0 few ∙ get_or-drop at image place 0
    ∙ are_zero (at + place) (omega arith) (omega (arith, few))

zero_range : (at n : ℕ) (image : List ℕ) → IsZeroAt 0 (length (bytes_at image at n)) (bytes_at image at n)
    → IsZeroAt at n image
zero_range at n image are_zero place low high =
    let bytes = bytes_at image at n in
    let few : place - at < n = omega (arith, low, high) in
    let there : place ≡ at + (place - at) = omega (arith, low) in
    let byte : slice_index bytes (place - at) ≡ 0 =
    elim (cases_lt (place - at) (length bytes)) [
      | inl within ↦ are_zero (place - at) (omega arith) (omega (arith, within))
      | inr past
          ↦ get_or_past bytes (place - at) 0 past
    ] in
    ap (slice_index image) there ∙ sym (get_or-drop at image (place - at) 0)
    ∙ sym (get_or-take n (drop at image) (place - at) 0 few) ∙ byte

-- the journal, as one range
journal_clear : (slots : ℕ) (image : List ℕ) (b : Bool) → has_journal slots image ≡ b
    → clear_writes gate_at (journal_len slots) image ≡ (if b then 1 else 0)
unfolding has_journal clear_writes
journal_clear slots image b is = ap (λ (x : Bool). if x then 1 else 0) is

-- where it is empty there is none, and where it is not there is one
empty_none : (slots : ℕ) (image : List ℕ) → HasEmptyJournal slots image → has_journal slots image ≡ false
empty_none slots image empty = elim (cases_Bool (has_journal slots image)) [
  | inl is ↦
      let none = clear_none gate_at (journal_len slots) image
      (range_zero gate_at (journal_len slots) image
      (λ place low high. empty place low (omega (arith, high, journal_end slots)))) in
      absurd (omega (arith, none, journal_clear slots image true is))
  | inr is ↦ is
]

stable : (n : ℕ) → ((n ≡ 0 → ⊥) → ⊥) → n ≡ 0
stable zero h = refl
stable (suc n) h = absurd (h (λ e. absurd (omega (arith, e))))

none_empty : (slots : ℕ) (image : List ℕ) → has_journal slots image ≡ false → HasEmptyJournal slots image
none_empty slots image is place low high =
    stable (slice_index image place)
    (λ other. absurd (omega (
      arith,
      journal_clear slots image false is,
      clear_one gate_at (journal_len slots) image
          (λ are_zero. other (zero_range gate_at (journal_len slots) image are_zero place low
          (omega (arith, high, journal_end slots)))),
    )))

pub one_or_other : (slots : ℕ) (image : List ℕ) → HasEmptyJournal slots image ⊎ (HasEmptyJournal slots image → ⊥)
one_or_other slots image = elim (cases_Bool (has_journal slots image)) [
  | inl is ↦ inr (λ empty. false≢true (sym (empty_none slots image empty) ∙ is))
  | inr is ↦ inl (none_empty slots image is)
]

-- blocks of marks and shadow that are zero
blocks_zero : (blocks : ℕ) (image : List ℕ) → IsZeroAt 8192 (4096 * blocks) image → clear_block_writes blocks image ≡ 0
blocks_zero zero image none = clear_blocks_none image
blocks_zero (suc n) image none =
    let more : suc n ≡ n + 1 = omega arith in
    let before = blocks_zero n image (λ place low high. none place low (omega (arith, high))) in
    let last = clear_none (8192 + 4096 * n) 4096 image
    (range_zero (8192 + 4096 * n) 4096 image
    (λ place low high. none place (omega (arith, low)) (omega (arith, high)))) in
    omega (arith, ap (λ (k : ℕ). clear_block_writes k image) more, clear_blocks_more n image, before, last)

table_start : (slots : ℕ) → table_at slots 0 ≡ 8192 + 4096 * (mark_blocks slots + slots)
unfolding table_at
table_start slots = omega arith

flag_clear : (slots : ℕ) (image : List ℕ) → HasEmptyJournal slots image → is_flag_set image ≡ false
unfolding is_flag_set
flag_clear slots image empty = ap (λ (byte : ℕ). not (byte == 0))
    (empty gate_at (omega arith) (omega (arith, table_start slots)))

-- opening an image with an empty journal makes no write and two syncs
pub opening_of_empty : (slots : ℕ) (image : List ℕ) → HasEmptyJournal slots image
    → (opening_writes slots image ≡ 0) × (opening_syncs slots image ≡ 2)
opening_of_empty slots image empty =
    let redo = (redo_when slots image false (flag_clear slots image empty)).0 in
    let gate = clear_none 4097 4095 image
    (range_zero 4097 4095 image (λ place low high.
    empty place (omega (arith, low)) (omega (arith, high, table_start slots)))) in
    let rest = blocks_zero (mark_blocks slots + slots) image
    (λ place low high. empty place (omega (arith, low)) (omega (arith, high, table_start slots))) in (
      omega (arith, redo, gate, rest),
      ap (λ (b : Bool). if b then redo_syncs image + 3 else 2)
          (empty_none slots image empty),
    )

-- and of another one more sync than redoing and erasing its journal
pub opening_of_journal : (slots : ℕ) (image : List ℕ) → (HasEmptyJournal slots image → ⊥)
    → opening_syncs slots image ≡ redo_syncs image + 3
opening_of_journal slots image other = elim (cases_Bool (has_journal slots image)) [
  | inl is ↦ ap (λ (b : Bool). if b then redo_syncs image + 3 else 2) is
  | inr is ↦ absurd (other (none_empty slots image is))
]
