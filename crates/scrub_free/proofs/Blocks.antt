-- What scrubbing makes of one slot.
use Rattle.std.proofs.Common.{◌≡◌, ℕ, ◌+◌, ◌<◌, ◌≤◌, ◌==◌, not, List, length, take, drop, slice_index, Bool, true}
use Rattle.std.proofs.Common.{false, if◌then◌else◌, sym, ap, ◌∙◌, inl, inr, arith, length-take, length-drop}
use Rattle.std.proofs.Common.{get_or-take, get_or-drop}
use Rattle.std.specs.Cmp.Lexicographic.{bytes_decides}
use Rattle.std.proofs.lemmas.Bool.{cases_eq, both_ways, and_cases, and_left, ne_eqb, true_from_ne_false}
use Rattle.std.proofs.lemmas.List.{ext_get_or, length-replicate, get_or-replicate}
use Rattle.store_model.specs.Lists.{same_bytes, zeros}
use Rattle.store_model.specs.Images.{bytes_at, scrubbed_block}
use Rattle.gate_journal.specs.Places.{IsZeroAt}
use Rattle.scrub_free.specs.FreeSlots.{is_unclean}

-- bytes that a test finds to be the same
same_by_test : (xs ys : List ℕ) → not (same_bytes xs ys) ≡ false → xs ≡ ys
same_by_test xs ys same =
    (bytes_decides xs ys).0 (true_from_ne_false (same_bytes xs ys)
    (λ differ. both_ways (not (same_bytes xs ys)) same (ap not differ)))

-- a free slot
pub free_block : (bytes : List ℕ) → slice_index bytes 0 ≡ 0 → scrubbed_block bytes ≡ zeros 4096
unfolding scrubbed_block
free_block bytes free = ap (λ (n : ℕ). if n == 0 then zeros 4096 else bytes) free

-- a slot in use
pub used_block : (bytes : List ℕ) → (slice_index bytes 0 == 0) ≡ false → scrubbed_block bytes ≡ bytes
unfolding scrubbed_block
used_block bytes used = ap (λ (b : Bool). if b then zeros 4096 else bytes) used

-- a slot that is clean is its own scrub
pub clean_block : (bytes : List ℕ) → is_unclean bytes ≡ false → scrubbed_block bytes ≡ bytes
unfolding is_unclean
clean_block bytes clean = elim (cases_eq (slice_index bytes 0) 0) [
  | inl free ↦ elim (and_cases (slice_index bytes 0 == 0) (not (same_bytes bytes (zeros 4096))) clean) [
    | inl used ↦ used_block bytes used
    | inr none ↦ free_block bytes free ∙ sym (same_by_test bytes (zeros 4096) none)
  ]
  | inr used ↦ used_block bytes (ne_eqb (slice_index bytes 0) 0 used)
]

-- and one that is not is free
pub unclean_free : (bytes : List ℕ) → is_unclean bytes ≡ true → slice_index bytes 0 ≡ 0
unfolding is_unclean
unclean_free bytes unclean = elim (cases_eq (slice_index bytes 0) 0) [
  | inl free ↦ free
  | inr used ↦ absurd (both_ways (is_unclean bytes)
      (and_left (slice_index bytes 0 == 0) (not (same_bytes bytes (zeros 4096))) (ne_eqb (slice_index bytes 0) 0 used))
      unclean)
]

-- bytes that are zero in an image
pub zero_bytes : (image : List ℕ) (at n : ℕ) → at + n ≤ length image → IsZeroAt at n image
    → bytes_at image at n ≡ zeros n
zero_bytes image at n within zero =
    let lengths : length (take n (drop at image)) ≡ n =
    omega (arith, length-take n (drop at image), length-drop at image, within) in
    ext_get_or 0 (take n (drop at image)) (zeros n) (lengths ∙ sym (length-replicate n 0)) λ i low.
    let few : i < n = omega (arith, lengths) in
    get_or-take n (drop at image) i 0 few ∙ get_or-drop at image i 0 ∙ zero (at + i) (omega arith) (omega arith)
    ∙ sym (get_or-replicate n i 0 0 few)
