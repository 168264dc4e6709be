-- Slots that were found clean.
use Rattle.std.proofs.Common.{◌≡◌, ℕ, ◌+◌, ◌≤◌, List, Some, false, length, slice_get, sym, ap, ◌∙◌, inl, inr, arith}
use Rattle.std.proofs.lemmas.Bool.{cases_lt}
use Rattle.std.proofs.lemmas.Option.{same_Some}
use Rattle.store_model.specs.Parameters.{image_len}
use Rattle.store_model.specs.Images.{recovered_slot, recovered}
use Rattle.gate_journal.specs.Phases.{table_slot}
use Rattle.gate_journal.proofs.Recovering.{table-recovered}
use Rattle.image_check.proofs.Images.{slots_in, slot_at}
use Rattle.scrub_free.specs.FreeSlots.{StandClean, is_unclean}
use Rattle.scrub_free.specs.ScrubbedSlots.{AreClean}

-- no slot was found yet
pub none_clean : (slots : List (List ℕ)) → AreClean slots 0
none_clean slots i slot low there = absurd (omega arith)

-- the slots are as they were
pub same_clean : (old new : List (List ℕ)) (n : ℕ) → AreClean old n → new ≡ old → AreClean new n
same_clean old new n clean same i slot low there =
    clean i slot low (ap (λ (slots : List (List ℕ)). slice_get slots i) (sym same) ∙ there)

-- one slot more was read, and is clean
pub more_clean : (old new : List (List ℕ)) (n m : ℕ) (got : List ℕ) → AreClean old n → new ≡ old
    → slice_get old n ≡ Some got → is_unclean got ≡ false → m ≤ n + 1 → AreClean new m
more_clean old new n m got clean same read is fewer i slot low there =
    let here : slice_get old i ≡ Some slot = ap (λ (slots : List (List ℕ)). slice_get slots i) (sym same) ∙ there in
    elim (cases_lt i n) [
      | inl before ↦ clean i slot before here
      | inr behind ↦
          let last : n ≡ i = omega arith in
          ap is_unclean (same_Some slot got (sym here ∙ ap (slice_get old) (sym last) ∙ read)) ∙ is
    ]

-- the slots that recovery would leave
pub stand_clean : (slots n : ℕ) (image : List ℕ) → n ≤ slots → AreClean (slots_in slots image) n
    → StandClean (recovered_slot slots image) n
stand_clean slots n image within clean i low =
    clean i (recovered_slot slots image i) low (slot_at slots image i (omega arith))

-- and the table once it was recovered
pub recovered_clean : (slots n : ℕ) (old bytes : List ℕ) → length old ≡ image_len slots → n ≤ slots
    → bytes ≡ recovered slots old → StandClean (recovered_slot slots old) n → StandClean (table_slot slots bytes) n
recovered_clean slots n old bytes long within is clean i low =
    ap is_unclean (ap (λ (image : List ℕ). table_slot slots image i) is
    ∙ table-recovered slots old long i (omega arith)) ∙ clean i low
