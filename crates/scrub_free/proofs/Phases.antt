-- The phases of a scrub, each a predicate on images, and what each scrubs to.
use Rattle.std.proofs.Common.{◌≡◌, ℕ, ◌<◌, List, length, take, slice_index, false, Bool, ◌&&◌, if◌then◌else◌, sym, ap}
use Rattle.std.proofs.Common.{◌∙◌, subst, inl, inr, arith}
use Rattle.std.proofs.lemmas.Bool.{cases_eq}
use Rattle.store_model.specs.Parameters.{shadow_at, table_at, image_len}
use Rattle.store_model.specs.Images.{bytes_at, is_flag_set, is_marked, viewed_header, recovered_slot, recovered}
use Rattle.store_model.specs.Images.{scrubbed_block, scrubbed_slot, scrubbed}
use Rattle.store_model.proofs.ImagesLemmas.{viewed_header-at_rest}
use Rattle.store_model.proofs.ImagesLemmasScrubbed.{slot_of_scrubbed, length-scrubbed, scrubbed-recovered}
use Rattle.store_model.proofs.ImagesLemmasScrubbed.{take-scrubbed, recovered-scrubbed}
use Rattle.gate_journal.specs.Places.{SameAt}
use Rattle.gate_journal.specs.Phases.{table_slot, HasEmptyJournal}
use Rattle.gate_journal.specs.Recovery.{RecoversAs}
use Rattle.gate_journal.proofs.Areas.{marks_end, shadow_end}
use Rattle.gate_journal.proofs.Places.{bytes_at-same}
use Rattle.gate_journal.proofs.Phases.{same_parts, same_settled}
use Rattle.gate_journal.proofs.Committing.{clear_flag}
use Rattle.gate_journal.proofs.Recovering.{long-recovered, empty-recovered}
use Rattle.scrub_free.specs.FreeSlots.{OutsideFree, AreScrubbed}
use Rattle.scrub_free.specs.Scrubbing.{ScrubsAs}
use Rattle.scrub_free.proofs.Blocks.{free_block}
use Rattle.scrub_free.proofs.Free.{slot_first, first_spared, used_spared, head_spared}

-- what a scrub does, one phase after another
pub data ScrubPhase : Type 0 where
  -- the journal is recovered
  Recovering : ScrubPhase
  -- the image is the recovered one; its free slots are made zero
  Zeroing : ScrubPhase

-- an image that a crash in this phase may leave, on the way from the old image
abbrev pub InScrubPhase : ℕ → List ℕ → ScrubPhase → List ℕ → Type 0
InScrubPhase slots old Recovering image = RecoversAs slots old image
InScrubPhase slots old Zeroing image = SameAt (OutsideFree slots (recovered slots old)) (recovered slots old) image

-- with the flag clear it is the table that is scrubbed
clear_slot : (slots : ℕ) (image : List ℕ) (i : ℕ) → is_flag_set image ≡ false
    → scrubbed_slot slots image i ≡ scrubbed_block (table_slot slots image i)
unfolding scrubbed_slot recovered_slot
clear_slot slots image i clear =
    ap (λ (b : Bool). scrubbed_block (bytes_at image
    (if b && is_marked image i then shadow_at slots i else table_at slots i) 4096)) clear

clear_journal : (slots : ℕ) (image : List ℕ) → HasEmptyJournal slots image → is_flag_set image ≡ false
clear_journal slots image empty =
    clear_flag image (empty 4096 (omega arith) (omega (arith, shadow_end slots, marks_end slots)))

-- scrubbing empties the journal
empty-scrubbed : (slots : ℕ) (image : List ℕ) → length image ≡ image_len slots
    → HasEmptyJournal slots (scrubbed slots image)
empty-scrubbed slots image long = subst (HasEmptyJournal slots) (recovered-scrubbed slots image long)
    (empty-recovered slots (scrubbed slots image) (length-scrubbed slots image long))

module _ (slots : ℕ) (image : List ℕ) (long : length image ≡ image_len slots) (empty : HasEmptyJournal slots image)
    (other : List ℕ) (same : SameAt (OutsideFree slots image) image other) where
  journal_kept : HasEmptyJournal slots other
  journal_kept place low high = same.same place (head_spared slots image place high) ∙ empty place low high

  is_clear : is_flag_set image ≡ false
  is_clear = clear_journal slots image empty

  other_clear : is_flag_set other ≡ false
  other_clear = clear_journal slots other journal_kept

  -- both headers are read as they stand
  header_kept : take 4096 other ≡ viewed_header slots image
  header_kept =
      bytes_at-same (OutsideFree slots image) 0 4096 image other
      (λ place low high. head_spared slots image place (omega (arith, shadow_end slots, marks_end slots))) same
      ∙ sym (viewed_header-at_rest slots image is_clear)

  slot_alike : (i : ℕ) → i < slots → scrubbed_block (table_slot slots other i)
      ≡ scrubbed_block (table_slot slots image i)
  slot_alike i below = elim (cases_eq (slice_index image (table_at slots i)) 0) [
    | inl free ↦
        free_block (table_slot slots other i)
        (slot_first slots i other ∙ same.same (table_at slots i) (first_spared slots i image below) ∙ free)
        ∙ sym (free_block (table_slot slots image i) (slot_first slots i image ∙ free))
    | inr used ↦ ap scrubbed_block
        (bytes_at-same (OutsideFree slots image) (table_at slots i) 4096 image other
        (used_spared slots i image below used) same)
  ]

  -- while free slots are made zero
  pub while_zeroed : scrubbed slots other ≡ scrubbed slots image
  unfolding scrubbed
  while_zeroed =
      same_parts slots (viewed_header slots other) (viewed_header slots image) (scrubbed_slot slots other)
      (scrubbed_slot slots image) (viewed_header-at_rest slots other other_clear ∙ header_kept)
      λ i below. clear_slot slots other i other_clear ∙ slot_alike i below ∙ sym (clear_slot slots image i is_clear)

  -- when all are zero
  pub when_zeroed : AreScrubbed slots slots image other → other ≡ scrubbed slots image
  when_zeroed are =
      same_settled slots (scrubbed slots image) other (length-scrubbed slots image long) (same.same_length ∙ long)
      (empty-scrubbed slots image long) journal_kept (record {
        header = header_kept ∙ sym (take-scrubbed slots image long);
        table = λ i below. are.scrubbed i below ∙ sym (clear_slot slots image i is_clear)
            ∙ sym (slot_of_scrubbed slots image i long below);
      })

-- the one law: an image in any phase scrubs to the same as the old one
pub scrubbed_in_phase : (slots : ℕ) (old : List ℕ) → length old ≡ image_len slots
    → (phase : ScrubPhase) (image : List ℕ) → InScrubPhase slots old phase image → ScrubsAs slots old image
scrubbed_in_phase slots old long Recovering image is = record {
  same_length = is.same_length;
  scrubs = sym (scrubbed-recovered slots image (is.same_length ∙ long)) ∙ ap (scrubbed slots) is.recovers
      ∙ scrubbed-recovered slots old long;
}
scrubbed_in_phase slots old long Zeroing image is = record {
  same_length = is.same_length ∙ long-recovered slots old long ∙ sym long;
  scrubs = while_zeroed slots (recovered slots old) (long-recovered slots old long)
      (empty-recovered slots old long) image is ∙ scrubbed-recovered slots old long;
}
