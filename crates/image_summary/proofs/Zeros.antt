-- Blocks of a journal that are zero.
use Rattle.std.proofs.Common.{◌≡◌, ℕ, ◌+◌, ◌-◌, ◌*◌, ◌≤◌, ◌<◌, List, length, take, drop, slice_index, refl, inl, inr}
use Rattle.std.proofs.Common.{sym, ap}
use Rattle.std.proofs.Common.{◌∙◌, arith, length-take, length-drop, get_or-take, get_or-drop}
use Rattle.std.proofs.lemmas.Bool.{cases_lt}
use Rattle.std.proofs.lemmas.List.{ext_get_or, length-replicate, get_or-replicate}
use Rattle.store_model.specs.Lists.{zeros}
use Rattle.store_model.specs.Parameters.{table_at, image_len}
use Rattle.store_model.specs.Images.{slot_bytes}
use Rattle.std.specs.Prelude.{None}
use Rattle.gate_journal.specs.Phases.{HasEmptyJournal}
use Rattle.gate_journal.proofs.Areas.{table_end}

-- the bytes of an image from its journal's first to this block are zero
abbrev pub AreZeroTo : ℕ → List ℕ → Type 0
AreZeroTo block image = (place : ℕ) → 4096 ≤ place → place < 4096 * block → slice_index image place ≡ 0

-- a block that was read is zero
pub zero_is : slot_bytes None ≡ zeros 4096
unfolding slot_bytes
zero_is = refl

pub one_more : (image part : List ℕ) (block at : ℕ) → AreZeroTo block image → at ≡ 4096 * block
    → part ≡ take 4096 (drop at image) → part ≡ zeros 4096 → AreZeroTo (block + 1) image
one_more image part block at before there read zero place low high = elim (cases_lt place (4096 * block)) [
  | inl below ↦ before place low below
  | inr above ↦ here (place - 4096 * block) (omega (arith, above)) (omega (arith, above, high))
]
  where
    here : (i : ℕ) → at + i ≡ place → i < 4096 → slice_index image place ≡ 0
    here i is few = ap (slice_index image) (sym is) ∙ sym (get_or-drop at image i 0) ∙ sym
        (get_or-take 4096 (drop at image) i 0 few)
        ∙ ap (λ (l : List ℕ). slice_index l i) (sym read ∙ zero) ∙ get_or-replicate 4096 i 0 0 few

-- and of an image with an empty journal each block of that is
pub block_is_zero : (slots : ℕ) (image part : List ℕ) (block at : ℕ) → length image ≡ image_len slots
    → HasEmptyJournal slots image → 1 ≤ block → at ≡ 4096 * block → at + 4096 ≤ table_at slots 0
    → part ≡ take 4096 (drop at image) → part ≡ zeros 4096
block_is_zero slots image part block at long empty some there within read =
    let lengths : length part ≡ 4096 = ap (λ (l : List ℕ). length l) read
    ∙ omega (arith, length-take 4096 (drop at image), length-drop at image, table_end slots, long, within) in
    ext_get_or 0 part (zeros 4096) (lengths ∙ sym (length-replicate {A = ℕ} 4096 0)) λ i low.
    let few : i < 4096 = omega (arith, lengths, low) in
    ap (λ (l : List ℕ). slice_index l i) read ∙ get_or-take 4096 (drop at image) i 0 few ∙ get_or-drop at image i 0
    ∙ empty (at + i) (omega (arith, there, some)) (omega (arith, within, few)) ∙ sym (get_or-replicate 4096 i 0 0 few)
