-- What is written beside the pages, one write after another.
use Rattle.std.proofs.Common.{◌≡◌, ℕ, ◌+◌, ◌-◌, ◌*◌, ◌<◌, ◌≤◌, List, length, take, drop, get_or, slice_get}
use Rattle.std.proofs.Common.{Bool, true, false, Some, Result, Ok, Err, OnOk, refl, sym, ap, subst, ◌∙◌, inl, inr}
use Rattle.std.proofs.Common.{arith}
use Rattle.std.proofs.lemmas.Bool.{cases_eq, cases_lt, false≢true}
use Rattle.std.proofs.lemmas.List.{length-replicate}
use Rattle.std.proofs.lemmas.List.Sums.{count_by_more_no, count_by_more_yes}
use Rattle.std.proofs.lemmas.Option.{same_Some, slice_get_within, slice_get-get_or}
use Rattle.store_model.specs.Lists.{zeros}
use Rattle.store_model.specs.Parameters.{image_len, table_at}
use Rattle.disk_model.specs.DiskState.{DiskState, IsObservable, IsSound}
use Rattle.disk_model.specs.DiskCalls.{IsWrite}
use Rattle.gate_journal.specs.Places.{IsApart, Keeps, Made, Reaches, IsZeroAt}
use Rattle.gate_journal.proofs.SoFar.{Comes}
use Rattle.gate_journal.proofs.Areas.{areas, table_end, shadow_end, marks_end}
use Rattle.gate_journal.proofs.Places.{Keeps-refl, Keeps-trans, Keeps-weaken, Keeps-write}
use Rattle.gate_journal.proofs.Calls.{Made-none, Made-then, Made-as, Makes-write}
use Rattle.gate_journal.proofs.Reading.{zero_written, zero_kept, erase_step, apart_within}
use Rattle.gate_journal.proofs.Stages.{on_ok_map}
use Rattle.image_writer.specs.Filling.{OutsideSlot, IsFilled, fill_writes, OutsideFree, AreFilled, free_count}
use Rattle.image_writer.specs.Filling.{OutsideJournal, HasHeaderRest}
use Rattle.store_model.specs.Parameters.{Parameters}
use Rattle.store_model.specs.Images.{header}
use Rattle.gate_journal.proofs.Formatting.{header_written}
use Rattle.gate_journal.proofs.Calls.{Reaches-fault}
use Rattle.std.proofs.Common.{slice_index, IsErr, length-take, length-drop}

-- ---- counts

-- calls and others behind them
pub Made-both : (old mid new : DiskState) (w s v t : ℕ) → Made w s old mid → Made v t mid new
    → Made (w + v) (s + t) old new
Made-both old mid new w s v t before then = record {
  write_count = omega (arith, before.write_count, then.write_count);
  sync_count = omega (arith, before.sync_count, then.sync_count);
}

-- one write
pub Made-write : {T E : Type 0} (old new : DiskState) (result : Result T E) (at : ℕ) (bytes : List ℕ)
    → IsObservable old → IsWrite old new at bytes result → OnOk result (Made 1 0 old new)
Made-write old new (Ok value) at bytes observable write =
    Made-as old new (0 + 1) (0 + 0) 1 0 (omega arith) (omega arith)
    (Made-then old old new value 0 0 1 0 (Made-none old) (Makes-write old new (Ok value) observable at bytes write))
Made-write old new (Err error) at bytes observable write = tt

-- ---- a range

-- zeros that were written
pub zeroed : {T E : Type 0} (at : ℕ) (old new : DiskState) (result : Result T E) → IsObservable old
    → at + 4096 ≤ length old.bytes → IsWrite old new at (zeros 4096) result
    → Reaches (IsApart at 4096) (IsZeroAt at 4096) old new result
zeroed at old new result observable fits write =
    let long : length (zeros 4096) ≡ 4096 = length-replicate {A = ℕ} 4096 0 in
    record {
      keeps = Keeps-write (IsApart at 4096) old new result observable at (zeros 4096)
          (λ place outside. subst (λ (n : ℕ). IsApart at n place) (sym long) outside) write;
      done = by_result result write;
    }
  where
    by_result : {T E : Type 0} (r : Result T E) → IsWrite old new at (zeros 4096) r → OnOk r
        (IsZeroAt at 4096 new.bytes)
    by_result (Ok value) written = subst (IsZeroAt at 4096) (sym (written.observed observable).written)
        (zero_written old.bytes (zeros 4096) at 4096 refl fits)
    by_result (Err error) written = tt

-- ---- a slot

pub slot_left : (slots slot : ℕ) (disk : DiskState) → IsSound disk
    → Reaches {T = Unit {0}} {E = Unit {0}} (OutsideSlot slots slot false) (IsFilled slots slot false) disk disk (Ok tt)
slot_left slots slot disk sound = record {
  keeps = Keeps-refl (OutsideSlot slots slot false) disk sound;
  done = λ e. absurd (false≢true e);
}

pub slot_filled : {T E : Type 0} (slots slot : ℕ) (old new : DiskState) (result : Result T E) → IsObservable old
    → IsSound old → slot < slots → old.size ≡ image_len slots
    → IsWrite old new (table_at slots slot) (zeros 4096) result
    → Reaches (OutsideSlot slots slot true) (IsFilled slots slot true) old new result
slot_filled slots slot old new result observable sound below size write =
    let here = areas slots slot below in
    let written = zeroed (table_at slots slot) old new result observable
    (omega (arith, here.table_end, sound.size, size)) write in
    record {
      keeps = Keeps-weaken (IsApart (table_at slots slot) 4096) (OutsideSlot slots slot true) old new
          (λ place outside. outside refl) written.keeps;
      done = on_ok_map result (IsZeroAt (table_at slots slot) 4096 new.bytes) (IsFilled slots slot true new.bytes)
          (λ zero e. zero) written.done;
    }

-- ---- the free slots, one after another

pub free_none : (slots : ℕ) (free : List Bool) (disk : DiskState) → IsSound disk
    → Comes (OutsideFree slots free) (AreFilled slots free 0) (free_count (take 0 free)) disk disk
free_none slots free disk sound = record {
  keeps = Keeps-refl (OutsideFree slots free) disk sound;
  done = λ i low. absurd (omega arith);
  made = Made-none disk;
}

-- the count of those that are free
count_more : (free : List Bool) (k : ℕ) (b : Bool) → slice_get free k ≡ Some b
    → free_count (take k free) + fill_writes b ≡ free_count (take (k + 1) free)
count_more free k true is =
    let below = slice_get_within free k true is in
    let here : get_or free k true ≡ true = same_Some _ _ (sym (slice_get-get_or free k true below) ∙ is) in
    sym (count_by_more_yes (λ b. b) free k true below here)
count_more free k false is =
    let below = slice_get_within free k false is in
    let here : get_or free k true ≡ false = same_Some _ _ (sym (slice_get-get_or free k true below) ∙ is) in
    let none : free_count (take k free) + 0 ≡ free_count (take k free) = omega arith in
    none ∙ sym (count_by_more_no (λ b. b) free k true below here)

pub free_more : {E : Type 0} (slots : ℕ) (free : List Bool) (k : ℕ) (b : Bool) (old mid new : DiskState) → IsSound mid
    → length free ≡ slots → slice_get free k ≡ Some b
    → Comes (OutsideFree slots free) (AreFilled slots free k) (free_count (take k free)) old mid
    → Reaches {T = Unit {0}} {E = E} (OutsideSlot slots k b) (IsFilled slots k b) mid new (Ok tt)
    → Made (fill_writes b) 0 mid new
    → Comes (OutsideFree slots free) (AreFilled slots free (k + 1)) (free_count (take (k + 1) free)) old new
free_more slots free k b old mid new sound long is comes reaches made =
    record {
      keeps = Keeps-trans (OutsideFree slots free) old mid new sound comes.keeps
          (Keeps-weaken (OutsideSlot slots k b) (OutsideFree slots free) mid new
          (λ place outside e. outside k (is ∙ ap Some e)) reaches.keeps);
      done = λ i low free_there. elim (cases_eq i k) [
        | inl same ↦
            let here : b ≡ true = same_Some b true (sym is ∙ ap (slice_get free) (sym same) ∙ free_there) in
            subst (λ n. IsZeroAt (table_at slots n) 4096 new.bytes) (sym same) (reaches.done here)
        | inr apart ↦
            let below : k < slots = omega (arith, slice_get_within free k b is, long) in
            let at = areas slots k below in
            let there = areas slots i (omega arith) in
            zero_kept (OutsideSlot slots k b) (table_at slots i) 4096 mid.bytes new.bytes
            (λ place from to e. elim (cases_lt i k) [
              | inl lower ↦ inl (omega (arith, at.table_is, there.table_is))
              | inr higher ↦ inr (omega (arith, at.table_is, there.table_is, apart))
            ])
            reaches.keeps.reads (comes.done i (omega (arith, apart)) free_there)
      ];
      made = Made-as old new (free_count (take k free) + fill_writes b) (0 + 0) (free_count (take (k + 1) free)) 0
          (count_more free k b is) (omega arith)
          (Made-both old mid new (free_count (take k free)) 0 (fill_writes b) 0 comes.made made);
    }

-- a fault at a slot
pub free_short : {T E U F : Type 0} (slots : ℕ) (free : List Bool) (k : ℕ) (b : Bool) (old mid new : DiskState)
    (fault : Result U F) (result : Result T E) → IsErr result → IsSound mid → slice_get free k ≡ Some b
    → Comes (OutsideFree slots free) (AreFilled slots free k) (free_count (take k free)) old mid
    → Reaches (OutsideSlot slots k b) (IsFilled slots k b) mid new fault
    → Reaches (OutsideFree slots free) (AreFilled slots free slots) old new result
free_short slots free k b old mid new fault result fails sound is comes reaches =
    Reaches-fault (OutsideFree slots free) (AreFilled slots free slots) old new result fails
    (Keeps-trans (OutsideFree slots free) old mid new sound comes.keeps
    (Keeps-weaken (OutsideSlot slots k b) (OutsideFree slots free) mid new
    (λ place outside e. outside k (is ∙ ap Some e)) reaches.keeps))

-- ---- the areas before the table

module _ (slots block : ℕ) (old mid new : DiskState) (observable : IsObservable mid) (sound : IsSound mid)
    (first : 1 ≤ block) (below : block * 4096 + 4096 ≤ table_at slots 0) (size : mid.size ≡ image_len slots)
    (comes : Comes (OutsideJournal slots) (IsZeroAt 4096 (4096 * (block - 1))) (block - 1) old mid) where
  pub journal_keeps : {T E : Type 0} (result : Result T E) → IsWrite mid new (block * 4096) (zeros 4096) result
      → Keeps (OutsideJournal slots) old new
  journal_keeps result write =
      let there : block * 4096 ≡ 4096 + 4096 * (block - 1) = omega arith in
      Keeps-trans (OutsideJournal slots) old mid new sound comes.keeps
      (Keeps-weaken (IsApart (block * 4096) 4096) (OutsideJournal slots) mid new
      (apart_within 4096 (table_at slots 0 - 4096) (4096 * (block - 1)) (block * 4096) 4096 there (omega arith))
      (zeroed (block * 4096) mid new result observable (omega (arith, sound.size, size, table_end slots)) write).keeps)

  pub journal_more : {E : Type 0} → IsWrite {T = Unit {0}} {E = E} mid new (block * 4096) (zeros 4096) (Ok tt)
      → Comes (OutsideJournal slots) (IsZeroAt 4096 (4096 * (block + 1 - 1))) (block + 1 - 1) old new
  journal_more write =
      let there : block * 4096 ≡ 4096 + 4096 * (block - 1) = omega arith in
      let next : 4096 * (block - 1) + 4096 ≡ 4096 * (block + 1 - 1) = omega arith in
      let one : block - 1 + 1 ≡ block + 1 - 1 = omega arith in
      let step = erase_step 4096 (table_at slots 0 - 4096) (4096 * (block - 1)) (block * 4096) 4096 old mid new sound
      there (omega arith) comes.keeps comes.done
      (zeroed (block * 4096) mid new (Ok tt) observable (omega (arith, sound.size, size, table_end slots)) write) in
      record {
        keeps = step.0;
        done = subst (λ (n : ℕ). IsZeroAt 4096 n new.bytes) next step.1;
        made = Made-as old new (block - 1 + 1) (0 + 0) (block + 1 - 1) 0 one (omega arith)
            (Made-both old mid new (block - 1) 0 1 0 comes.made
            (Made-write mid new (Ok tt) (block * 4096) (zeros 4096) observable write));
      }

-- ---- the header

pub header_part_long : (block : List ℕ) → length block ≡ 4096 → length (take 4095 (drop 1 block)) ≡ 4095
header_part_long block long = omega (arith, length-take 4095 (drop 1 block), length-drop 1 block, long)

pub long_image : (slots : ℕ) → 8192 ≤ image_len slots
long_image slots = omega (arith, table_end slots, shadow_end slots, marks_end slots)

pub header_rest_written : {T E : Type 0} (p : Parameters) (block : List ℕ) (old new : DiskState) (result : Result T E)
    → IsObservable old → IsSound old → old.size ≡ image_len p.slots → block ≡ header p → length block ≡ 4096
    → IsWrite old new 1 (take 4095 (drop 1 block)) result
    → Reaches (IsApart 1 4095) (HasHeaderRest p) old new result
header_rest_written p block old new result observable sound size is long write =
    record {
      keeps = Keeps-write (IsApart 1 4095) old new result observable 1 (take 4095 (drop 1 block))
          (λ place outside. subst (λ (n : ℕ). IsApart 1 n place) (sym (header_part_long block long)) outside) write;
      done = by_result result write;
    }
  where
    by_result : {T E : Type 0} (r : Result T E) → IsWrite old new 1 (take 4095 (drop 1 block)) r
        → OnOk r (HasHeaderRest p new.bytes)
    by_result (Ok value) written = λ place low high.
        ap (λ (l : List ℕ). slice_index l place) (written.observed observable).written
        ∙ header_written block old.bytes long (omega (arith, sound.size, size, long_image p.slots)) place low high
        ∙ ap (λ (l : List ℕ). slice_index l place) is
    by_result (Err error) written = tt
