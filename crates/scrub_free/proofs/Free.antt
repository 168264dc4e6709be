-- Where the free slots of a table lie.
use Rattle.std.proofs.Common.{◌≡◌, ℕ, ◌+◌, ◌<◌, ◌≤◌, List, drop, slice_index, sym, ap, ◌∙◌, inl, inr, arith}
use Rattle.std.proofs.Common.{get_or-take, get_or-drop}
use Rattle.std.proofs.lemmas.Bool.{cases_eq}
use Rattle.store_model.specs.Parameters.{table_at}
use Rattle.gate_journal.specs.Places.{IsApart}
use Rattle.gate_journal.specs.Phases.{table_slot}
use Rattle.gate_journal.proofs.Areas.{areas}
use Rattle.gate_journal.proofs.Committing.{table_apart}
use Rattle.scrub_free.specs.FreeSlots.{OutsideFreeSlot, OutsideFree}

-- byte 0 of a slot in the image
pub slot_first : (slots i : ℕ) (image : List ℕ)
    → slice_index (table_slot slots image i) 0 ≡ slice_index image (table_at slots i)
slot_first slots i image =
    let at = table_at slots i in
    let few : 0 < 4096 = omega arith in
    let here : at + 0 ≡ at = omega arith in
    get_or-take 4096 (drop at image) 0 0 few ∙ get_or-drop at image 0 0 ∙ ap (slice_index image) here

behind_first : (at place : ℕ) → IsApart at 4096 place → IsApart (at + 1) 4095 place
behind_first at place (inl low) = inl (omega arith)
behind_first at place (inr high) = inr (omega arith)

-- the places of a slot are outside another
pub beside : (slots i other : ℕ) (image : List ℕ) → i < slots → other < slots → (other ≡ i → ⊥) → (place : ℕ)
    → table_at slots i ≤ place → place < table_at slots i + 4096 → OutsideFreeSlot slots other image place
beside slots i other image below other_below differs place low high free =
    behind_first (table_at slots other) place (table_apart slots i other below other_below differs place low high)

-- byte 0 of each slot is spared
pub first_spared : (slots i : ℕ) (image : List ℕ) → i < slots → OutsideFree slots image (table_at slots i)
first_spared slots i image below other other_below = elim (cases_eq other i) [
  | inl same ↦ λ free. inl (omega (arith, ap (table_at slots) same))
  | inr differs ↦ beside slots i other image below other_below differs (table_at slots i) (omega arith) (omega arith)
]

-- and so is each place of a slot in use
pub used_spared : (slots i : ℕ) (image : List ℕ) → i < slots → (slice_index image (table_at slots i) ≡ 0 → ⊥)
    → (place : ℕ) → table_at slots i ≤ place → place < table_at slots i + 4096 → OutsideFree slots image place
used_spared slots i image below used place low high other other_below = elim (cases_eq other i) [
  | inl same ↦ λ free. absurd (used (ap (λ (n : ℕ). slice_index image (table_at slots n)) (sym same) ∙ free))
  | inr differs ↦ beside slots i other image below other_below differs place low high
]

-- and each before the table
pub head_spared : (slots : ℕ) (image : List ℕ) (place : ℕ) → place < table_at slots 0 → OutsideFree slots image place
head_spared slots image place low i below free = inl (omega (arith, (areas slots i below).table_is))
