-- The header that the journal of an image leads to.
use Rattle.std.proofs.Common.{◌≡◌, ℕ, ◌<◌, List, length, take, slice_index, slice_set, true, false, Bool, if◌then◌else◌}
use Rattle.std.proofs.Common.{sym, ap, ◌∙◌, inl, inr, arith, length-set, length-take, get_or-take}
use Rattle.std.proofs.lemmas.Bool.{cases_Bool, cases_eq, cases_lt, both_ways}
use Rattle.std.proofs.lemmas.List.{ext_get_or, set-get_or, get_or-set_other}
use Rattle.std.proofs.lemmas.Grind.{get_or-set_at}
use Rattle.store_model.specs.Images.{is_marked}
use Rattle.gate_journal.specs.Places.{IsApart, SameAt}
use Rattle.gate_journal.proofs.Places.{bytes_at-same}
use Rattle.gate_journal.proofs.Phases.{redo_header}

pub header_marked : (slots : ℕ) (image : List ℕ) → is_marked image slots ≡ true
    → redo_header slots image ≡ slice_set (take 4096 image) 14 2
header_marked slots image is = ap (λ (b : Bool). if b then slice_set (take 4096 image) 14 2 else take 4096 image) is

pub header_unmarked : (slots : ℕ) (image : List ℕ) → is_marked image slots ≡ false
    → redo_header slots image ≡ take 4096 image
header_unmarked slots image is = ap (λ (b : Bool). if b then slice_set (take 4096 image) 14 2 else take 4096 image) is

-- headers that are the same but for the version are the same with version 2
pub header_apart : (places : ℕ → Type 0) (a b : List ℕ)
    → ((place : ℕ) → place < 4096 → IsApart 14 1 place → places place) → SameAt places a b
    → slice_set (take 4096 b) 14 2 ≡ slice_set (take 4096 a) 14 2
header_apart places a b within same =
    let lengths : length (take 4096 b) ≡ length (take 4096 a) =
    omega (arith, length-take 4096 b, length-take 4096 a, same.same_length) in
    ext_get_or 0 (slice_set (take 4096 b) 14 2) (slice_set (take 4096 a) 14 2)
    (length-set (take 4096 b) 14 2 ∙ lengths ∙ sym (length-set (take 4096 a) 14 2)) λ i low.
    let here : i < length (take 4096 b) = omega (arith, length-set (take 4096 b) 14 2) in
    elim (cases_eq i 14) [
      | inl version ↦ get_or-set_at (take 4096 b) 14 i 2 0 version (omega arith)
          ∙ sym (get_or-set_at (take 4096 a) 14 i 2 0 version (omega arith))
      | inr other ↦
          let few : i < 4096 = omega (arith, length-take 4096 b) in
          let apart : IsApart 14 1 i =
          elim (cases_lt i 14) [ inl before ↦ inl before | inr behind ↦ inr (omega (arith, other)) ] in
          get_or-set_other (take 4096 b) 14 i 2 0 other ∙ get_or-take 4096 b i 0 few ∙ same.same i (within i few apart)
          ∙ sym (get_or-set_other (take 4096 a) 14 i 2 0 other ∙ get_or-take 4096 a i 0 few)
    ]

-- images with the same mark behind the last slot's and the same header, but for the version where that is set, lead
-- to the same
pub header_same : (slots : ℕ) (places : ℕ → Type 0) (a b : List ℕ) → is_marked b slots ≡ is_marked a slots
    → ((place : ℕ) → place < 4096 → (is_marked a slots ≡ true → IsApart 14 1 place) → places place) → SameAt places a b
    → redo_header slots b ≡ redo_header slots a
header_same slots places a b mark within same = elim (cases_Bool (is_marked a slots)) [
  | inl is_so ↦ header_marked slots b (mark ∙ is_so)
      ∙ header_apart places a b (λ place low apart. within place low (λ marks. apart)) same
      ∙ sym (header_marked slots a is_so)
  | inr not_so ↦
      header_unmarked slots b (mark ∙ not_so)
      ∙ bytes_at-same places 0 4096 a b
      (λ place low high. within place high (λ marks. absurd (both_ways (is_marked a slots) not_so marks))) same
      ∙ sym (header_unmarked slots a not_so)
]

-- a header that has version 2 is the one that the journal leads to
pub header_redone : (slots : ℕ) (image : List ℕ) → (is_marked image slots ≡ true → slice_index image 14 ≡ 2)
    → redo_header slots image ≡ take 4096 image
header_redone slots image version = elim (cases_Bool (is_marked image slots)) [
  | inl is_so ↦
      let low : 14 < 4096 = omega arith in
      header_marked slots image is_so ∙ ap (slice_set (take 4096 image) 14)
      (sym (get_or-take 4096 image 14 0 low ∙ version is_so)) ∙ set-get_or (take 4096 image) 14 0
  | inr not_so ↦ header_unmarked slots image not_so
]
