-- What becomes of an image where the slots in which recovery leaves other bytes of another are changed.
use Rattle.std.proofs.Common.{◌≡◌, ℕ, ◌<◌, List, length, sym, ap, ◌∙◌, inl, inr, arith}
use Rattle.store_model.specs.Parameters.{image_len}
use Rattle.store_model.specs.Images.{viewed_header, recovered_slot, recovered}
use Rattle.store_model.proofs.ImagesLemmasScrubbed.{take-recovered}
use Rattle.gate_journal.specs.Changes.{Changes, AreChanges, with_slots}
use Rattle.gate_journal.specs.Phases.{table_slot}
use Rattle.gate_journal.proofs.Phases.{same_settled}
use Rattle.gate_journal.proofs.Committing.{find_slot, with_first_same, new_header, new_empty}
use Rattle.gate_journal.proofs.Layouts.{with-slots-changed, with-slots-kept}
use Rattle.gate_journal.proofs.Recovering.{table-recovered, long-recovered, empty-recovered}
use Rattle.table_memory.specs.Differences.{AreDifferences}

module _ (slots : ℕ) (first second : List ℕ) (first_long : length first ≡ image_len slots)
    (second_long : length second ≡ image_len slots) (heads : viewed_header slots second ≡ viewed_header slots first)
    (changes : Changes) (are : AreChanges slots changes)
    (differ : AreDifferences (recovered_slot slots second) (recovered_slot slots first) slots changes) where
  abbrev pub changed : List ℕ
  changed = with_slots slots changes (recovered slots second)

  long : length (recovered slots second) ≡ image_len slots
  long = long-recovered slots second second_long

  -- each slot of it is the one that recovery leaves of the other
  slot_of_first : (i : ℕ) → i < slots → table_slot slots changed i ≡ table_slot slots (recovered slots first) i
  slot_of_first i below = elim (find_slot slots changes are changes.count i) [
    | inl found ↦
        ap (table_slot slots changed) (sym found.2)
        ∙ with-slots-changed slots changes (recovered slots second) are long found.0 found.1
        ∙ differ.bytes found.0 found.1 ∙ ap (recovered_slot slots first) found.2
        ∙ sym (table-recovered slots first first_long i below)
    | inr none ↦
        with-slots-kept slots changes (recovered slots second) are long i below none
        ∙ table-recovered slots second second_long i below ∙ differ.others i below none
        ∙ sym (table-recovered slots first first_long i below)
  ]

  -- it is what recovery leaves of that
  pub becomes_first : changed ≡ recovered slots first
  becomes_first =
      let empty = empty-recovered slots second second_long in
      same_settled slots (recovered slots first) changed (long-recovered slots first first_long)
      ((with_first_same slots changes are (recovered slots second) long changes.count (omega arith)).same_length
      ∙ long) (empty-recovered slots first first_long)
      (new_empty slots changes are (recovered slots second) long empty) (record {
        header = new_header slots changes are (recovered slots second) long empty
            ∙ take-recovered slots second second_long ∙ heads ∙ sym (take-recovered slots first first_long);
        table = slot_of_first;
      })
