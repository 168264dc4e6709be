-- The images on the way of a recovery, and what they recover to.
use Rattle.std.proofs.Common.{◌≡◌, ℕ, ◌+◌, ◌-◌, ◌<◌, ◌≤◌, List, ◌++◌, length, take, slice_index, slice_set, true, false}
use Rattle.std.proofs.Common.{Bool, not, ◌==◌, if◌then◌else◌, ◌&&◌, sym, ap, ◌∙◌, inl, inr, arith, length-append}
use Rattle.std.specs.List.{flat_map}
use Rattle.std.proofs.lemmas.Bool.{cases_Bool, cases_eq, both_ways}
use Rattle.std.proofs.lemmas.List.{get_or_append_left, get_or-append_right, get_or-replicate, length-replicate}
use Rattle.store_model.specs.Lists.{zeros, numbers_below}
use Rattle.store_model.specs.Parameters.{mark_at, shadow_at, table_at, image_len}
use Rattle.store_model.specs.Images.{bytes_at, is_flag_set, is_marked, viewed_header, recovered_slot, recovered}
use Rattle.store_model.specs.Images.{journal_len}
use Rattle.store_model.proofs.ImagesLemmas.{header_in_image, length-viewed_header, viewed_header-at_rest}
use Rattle.store_model.proofs.ImagesLemmas.{length-recovered}
use Rattle.store_model.proofs.ImagesLemmasScrubbed.{take-recovered, slot_of_recovered}
use Rattle.gate_journal.specs.Places.{IsApart, SameAt, IsZeroAt}
use Rattle.gate_journal.specs.Phases.{table_slot, HasTable, HasEmptyJournal}
use Rattle.gate_journal.specs.Recovery.{OutsideMarked, OutsideRedone, IsRedone, RecoversAs}
use Rattle.gate_journal.proofs.Areas.{areas, journal_end, marks_end, shadow_end}
use Rattle.gate_journal.proofs.Places.{bytes_at-same}
use Rattle.gate_journal.proofs.Phases.{redo_slot, redo_header, settled, HasRedo, recovered_clear, recovered_set}
use Rattle.gate_journal.proofs.Phases.{settled_empty, same_settled}
use Rattle.gate_journal.proofs.Committing.{table_apart, HasTable-same, clear_flag}
use Rattle.gate_journal.proofs.RedoHeaders.{header_same, header_redone}
use Rattle.gate_journal.proofs.Redoing.{before_table}

-- a mark that is the same
mark_same : (a b : List ℕ) (i : ℕ) → slice_index b (mark_at i) ≡ slice_index a (mark_at i)
    → is_marked b i ≡ is_marked a i
unfolding is_marked
mark_same a b i same = ap (λ (x : ℕ). not (x == 0)) same

flag_same : (a b : List ℕ) → slice_index b 4096 ≡ slice_index a 4096 → is_flag_set b ≡ is_flag_set a
unfolding is_flag_set
flag_same a b same = ap (λ (x : ℕ). not (x == 0)) same

module _ (slots : ℕ) (old : List ℕ) (long : length old ≡ image_len slots) where
  -- the slots of what is recovered
  pub table-recovered : (i : ℕ) → i < slots → table_slot slots (recovered slots old) i ≡ recovered_slot slots old i
  table-recovered i below = slot_of_recovered slots old i long below

  pub long-recovered : length (recovered slots old) ≡ image_len slots
  long-recovered = length-recovered slots old long

  pub empty-recovered : HasEmptyJournal slots (recovered slots old)
  unfolding recovered
  empty-recovered place low high =
      let head = viewed_header slots old in
      let rest = flat_map (recovered_slot slots old) (numbers_below slots) in
      let front : length head ≡ 4096 = length-viewed_header slots old (omega (arith, long, header_in_image slots)) in
      let before : length (head ++ zeros (journal_len slots)) ≡ table_at slots 0 =
      omega (
        arith,
        length-append head (zeros (journal_len slots)),
        front,
        length-replicate {A = ℕ}
            (journal_len slots) 0,
        journal_end slots,
      ) in
      get_or_append_left (head ++ zeros (journal_len slots)) rest 0 place (omega (arith, before))
      ∙ get_or-append_right head (zeros (journal_len slots)) 4096 place 0 front low
      ∙ get_or-replicate (journal_len slots) (place - 4096) 0 0 (omega (arith, journal_end slots))

  settled-recovered : settled slots (recovered slots old) ≡ recovered slots old
  settled-recovered = settled_empty slots (recovered slots old) long-recovered empty-recovered

  -- with the flag clear the image has the recovered table
  pub has_table : is_flag_set old ≡ false → HasTable slots (recovered slots old) old
  unfolding recovered_slot
  has_table clear = record {
    header = sym (viewed_header-at_rest slots old clear) ∙ sym (take-recovered slots old long);
    table = λ i below.
        sym (table-recovered i below
        ∙ ap (λ (b : Bool). bytes_at old (if b && is_marked old i then shadow_at slots i else table_at slots i)
        4096) clear);
  }

  header-recovered : is_flag_set old ≡ true → redo_header slots old ≡ take 4096 (recovered slots old)
  unfolding viewed_header
  header-recovered set =
      sym (take-recovered slots old long
      ∙ ap (λ (raised : Bool). if raised && is_marked old slots then slice_set
      (take 4096 old) 14 2 else take 4096 old) set)

  redo-recovered : is_flag_set old ≡ true → (i : ℕ) → i < slots
      → redo_slot slots old i ≡ table_slot slots (recovered slots old) i
  unfolding recovered_slot
  redo-recovered set i below =
      sym (table-recovered i below
      ∙ ap (λ (b : Bool). bytes_at old (if b && is_marked old i then shadow_at slots i else table_at slots i) 4096)
      set)

  slot_marked : (image : List ℕ) (i : ℕ) → is_marked image i ≡ true
      → redo_slot slots image i ≡ bytes_at image (shadow_at slots i) 4096
  slot_marked image i is = ap (λ (b : Bool). bytes_at image (if b then shadow_at slots i else table_at slots i) 4096) is

  slot_unmarked : (image : List ℕ) (i : ℕ) → is_marked image i ≡ false
      → redo_slot slots image i ≡ table_slot slots image i
  slot_unmarked image i is =
      ap (λ (b : Bool). bytes_at image (if b then shadow_at slots i else table_at slots i) 4096) is

  -- a slot that is not marked lies apart from those that are
  unmarked_apart : (i : ℕ) → i < slots → is_marked old i ≡ false → (place : ℕ) → table_at slots i ≤ place
      → place < table_at slots i + 4096 → OutsideMarked slots 0 slots old place
  unmarked_apart i below is place from to k first last marks =
      table_apart slots i k below last (λ same. both_ways (is_marked old i) is (ap (is_marked old) (sym same) ∙ marks))
      place from to

  module _ (set : is_flag_set old ≡ true) (image : List ℕ) (same : SameAt (OutsideRedone slots old) old image) where
    -- the journal lies before the table and behind the header
    spared : (place : ℕ) → 4096 ≤ place → place < table_at slots 0 → OutsideRedone slots old place
    spared place high low = record {
      table = before_table slots 0 slots old (omega arith) place low;
      version = λ marks. inr (omega arith);
    }

    mark_kept : (i : ℕ) → i ≤ slots → is_marked image i ≡ is_marked old i
    mark_kept i few = mark_same old image i
        (same.same (mark_at i) (spared (mark_at i) (omega arith) (omega (arith, marks_end slots, shadow_end slots))))

    header_kept : redo_header slots image ≡ take 4096 (recovered slots old)
    header_kept =
        header_same slots (OutsideRedone slots old) old image (mark_kept slots (omega arith))
        (λ place low apart. record {
          table = before_table slots 0 slots old (omega arith) place
              (omega (arith, shadow_end slots, marks_end slots));
          version = apart;
        }) same
        ∙ header-recovered set

    shadow_kept : (i : ℕ) → i < slots → bytes_at image (shadow_at slots i) 4096 ≡ bytes_at old (shadow_at slots i) 4096
    shadow_kept i below =
        bytes_at-same (OutsideRedone slots old) (shadow_at slots i) 4096 old image
        (λ place from to. spared place (omega (arith, (areas slots i below).shadow_is, marks_end slots))
        (omega (arith, (areas slots i below).shadow_end))) same

    other_kept : (i : ℕ) → i < slots → is_marked old i ≡ false → table_slot slots image i ≡ table_slot slots old i
    other_kept i below is =
        bytes_at-same (OutsideRedone slots old) (table_at slots i) 4096 old image
        (λ place from to. record {
          table = unmarked_apart i below is place from to;
          version = λ marks. inr (omega (arith, (areas slots i below).table_is, shadow_end slots, marks_end slots));
        })
        same

    pub redo_kept : HasRedo slots (recovered slots old) image
    redo_kept = record {
      header = header_kept;
      redo = λ i below. elim (cases_Bool (is_marked old i)) [
        | inl is_so ↦ slot_marked image i (mark_kept i (omega arith) ∙ is_so) ∙ shadow_kept i below
            ∙ sym (slot_marked old i is_so) ∙ redo-recovered set i below
        | inr not_so ↦ slot_unmarked image i (mark_kept i (omega arith) ∙ not_so) ∙ other_kept i below not_so
            ∙ sym (slot_unmarked old i not_so) ∙ redo-recovered set i below
      ];
    }

    -- while marked slots and the version are redone
    pub while_redone : RecoversAs slots old image
    while_redone = record {
      same_length = same.same_length;
      recovers =
          recovered_set slots (recovered slots old) image
          (flag_same old image
          (same.same 4096 (spared 4096 (omega arith) (omega (arith, shadow_end slots, marks_end slots)))) ∙ set)
          redo_kept ∙ settled-recovered;
    }

    pub table_redone : IsRedone slots old image → HasTable slots (recovered slots old) image
    table_redone redone = record {
      header = sym (header_redone slots image (λ marks. redone.version (sym (mark_kept slots (omega arith)) ∙ marks)))
          ∙ header_kept;
      table = λ i below. elim (cases_Bool (is_marked old i)) [
        | inl is_so ↦ redone.table i (omega arith) below is_so ∙ sym (slot_marked old i is_so)
            ∙ redo-recovered set i below
        | inr not_so ↦ other_kept i below not_so ∙ sym (slot_unmarked old i not_so) ∙ redo-recovered set i below
      ];
    }

  -- while the flag is cleared
  pub while_cleared : (before image : List ℕ) → length before ≡ image_len slots
      → HasTable slots (recovered slots old) before → HasRedo slots (recovered slots old) before
      → SameAt (IsApart 4096 1) before image → RecoversAs slots old image
  while_cleared before image before_long table redo same =
      let kept : (at : ℕ) → 8192 ≤ at → bytes_at image at 4096 ≡ bytes_at before at 4096 =
      λ at low. bytes_at-same (IsApart 4096 1) at 4096 before image (λ place from to. inr (omega arith)) same in
      let mark : (i : ℕ) → is_marked image i ≡ is_marked before i =
      λ i. mark_same before image i (same.same (mark_at i) (inr (omega arith))) in
      let here : HasTable slots (recovered slots old) image =
      HasTable-same slots (IsApart 4096 1) (recovered slots old) before image (λ place low. inl low)
      (λ place low high. inr (omega (arith, marks_end slots, shadow_end slots))) same table in
      let again : HasRedo slots (recovered slots old) image = record {
        header = header_same slots (IsApart 4096 1) before image (mark slots) (λ place low apart. inl low) same
            ∙ redo.header;
        redo = λ i below.
            let at = areas slots i below in
            elim (cases_Bool (is_marked before i)) [
              | inl is_so ↦ slot_marked image i (mark i ∙ is_so)
                  ∙ kept (shadow_at slots i) (omega (arith, at.shadow_is, marks_end slots))
                  ∙ sym (slot_marked before i is_so) ∙ redo.redo i below
              | inr not_so ↦ slot_unmarked image i (mark i ∙ not_so)
                  ∙ kept (table_at slots i) (omega (arith, at.table_is, shadow_end slots, marks_end slots))
                  ∙ sym (slot_unmarked before i not_so) ∙ redo.redo i below
            ];
      } in
      record {
        same_length = same.same_length ∙ before_long ∙ sym long;
        recovers = elim (cases_Bool (is_flag_set image)) [
          | inl set ↦ recovered_set slots (recovered slots old) image set again ∙ settled-recovered
          | inr clear ↦ recovered_clear slots (recovered slots old) image clear here ∙ settled-recovered
        ];
      }

  -- while the journal is erased
  pub while_erased : (before image : List ℕ) → length before ≡ image_len slots
      → HasTable slots (recovered slots old) before → slice_index before 4096 ≡ 0
      → SameAt (IsApart 4097 (journal_len slots - 1)) before image → RecoversAs slots old image
  while_erased before image before_long table zero_flag same =
      let here = HasTable-same slots (IsApart 4097 (journal_len slots - 1)) (recovered slots old) before image
      (λ place low. inl (omega arith))
      (λ place low high. inr (omega (arith, journal_end slots, shadow_end slots, marks_end slots))) same table in
      record {
        same_length = same.same_length ∙ before_long ∙ sym long;
        recovers = recovered_clear slots (recovered slots old) image
            (clear_flag image (same.same 4096 (inl (omega arith)) ∙ zero_flag)) here ∙ settled-recovered;
      }

  -- when it is erased the image is the recovered one
  pub when_erased : (before image : List ℕ) → length before ≡ image_len slots
      → HasTable slots (recovered slots old) before → slice_index before 4096 ≡ 0
      → SameAt (IsApart 4097 (journal_len slots - 1)) before image → IsZeroAt 4097 (journal_len slots - 1) image
      → image ≡ recovered slots old
  when_erased before image before_long table zero_flag same zero =
      let here = HasTable-same slots (IsApart 4097 (journal_len slots - 1)) (recovered slots old) before image
      (λ place low. inl (omega arith))
      (λ place low high. inr (omega (arith, journal_end slots, shadow_end slots, marks_end slots))) same table in
      let empty : HasEmptyJournal slots image = λ place low high. elim (cases_eq place 4096) [
        | inl flag ↦ ap (slice_index image) flag ∙ same.same 4096 (inl (omega arith)) ∙ zero_flag
        | inr differs ↦ zero place (omega arith) (omega (arith, journal_end slots))
      ] in
      same_settled slots (recovered slots old) image long-recovered
      (same.same_length ∙ before_long) empty-recovered empty here
