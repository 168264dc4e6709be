-- The states of the disk between the phases of a recovery.
use Rattle.std.proofs.Common.{◌≡◌, ◌⊎◌, ℕ, ◌-◌, List, [], ◌∷◌, length, slice_index, true, false, not, ◌==◌, sym, ap}
use Rattle.std.proofs.Common.{◌∙◌, subst, inl, inr, arith, Result, Ok, OnOk, IsErr}
use Rattle.gate_journal.proofs.Areas.{marks_end, shadow_end, table_end}
use Rattle.std.proofs.lemmas.Bool.{cases_eq, ne_eqb, both_ways}
use Rattle.store_model.specs.Parameters.{image_len}
use Rattle.store_model.specs.Images.{is_flag_set, recovered, journal_len}
use Rattle.disk_model.specs.DiskState.{DiskState, IsObservable, IsDurable, IsSound}
use Rattle.disk_model.specs.DiskCalls.{LeavesOnly, overwrite, IsSync}
use Rattle.disk_model.proofs.Crashes.{LeavesOnly-trans, LeavesOnly-weaken}
use Rattle.gate_journal.specs.Places.{IsApart, SameAt, Keeps, Reaches, ReadsOnly, IsZeroAt}
use Rattle.gate_journal.specs.Phases.{HasTable, HasEmptyJournal}
use Rattle.gate_journal.specs.Recovery.{OutsideRedone, IsRedone, RecoversAs, SettlesFlag, RecoversDurable, Recovers}
use Rattle.gate_journal.proofs.Phases.{HasRedo, recovered_empty}
use Rattle.gate_journal.proofs.Reading.{IsDurable-reads}
use Rattle.gate_journal.proofs.Entries.{slice_index-overwrite}
use Rattle.gate_journal.proofs.Committing.{HasTable-same}
use Rattle.gate_journal.proofs.Stages.{no_claim, on_ok_map, phase_leaves, reads_after}
use Rattle.gate_journal.proofs.Recovering.{has_table, redo_kept, while_redone, table_redone, while_cleared}
use Rattle.gate_journal.proofs.Recovering.{while_erased, when_erased, empty-recovered}

pub flag_clear : (image : List ℕ) → is_flag_set image ≡ false → slice_index image 4096 ≡ 0
unfolding is_flag_set
flag_clear image clear = elim (cases_eq (slice_index image 4096) 0) [
  | inl zero_flag ↦ zero_flag
  | inr differs ↦ absurd (both_ways (not (slice_index image 4096 == 0)) clear
      (ap not (ne_eqb (slice_index image 4096) 0 differs)))
]

-- an image that is the other recovers as it does
recovers_alike : (slots : ℕ) (old image : List ℕ) → image ≡ old → RecoversAs slots old image
recovers_alike slots old image is = record { same_length = ap length is; recovers = ap (recovered slots) is }

-- what a durable disk recovers to, while it is only read
pub leaves_reading : (slots : ℕ) (old new : DiskState) → IsDurable old → ReadsOnly old new
    → LeavesOnly old new (RecoversAs slots old.bytes)
leaves_reading slots old new durable reads =
    LeavesOnly-weaken old new old.crash_images (RecoversAs slots old.bytes)
    (λ image left. recovers_alike slots old.bytes image (durable image left)) reads.leaves

-- the flag was clear
pub settles_clear : {T E : Type 0} (slots : ℕ) (old new : DiskState) (value : T) → length old.bytes ≡ image_len slots
    → IsDurable old → ReadsOnly old new → is_flag_set old.bytes ≡ false → SettlesFlag {E = E} slots old new (Ok value)
settles_clear slots old new value long durable reads clear = record {
  crash = leaves_reading slots old new durable reads;
  durable = IsDurable-reads old new durable reads;
  table = subst (HasTable slots (recovered slots old.bytes)) (sym reads.bytes) (has_table slots old.bytes long clear);
  clear = ap (λ (l : List ℕ). slice_index l 4096) reads.bytes ∙ flag_clear old.bytes clear;
}

-- an error, with what was left until then
pub settles_fault : {T E : Type 0} (slots : ℕ) (old new : DiskState) (result : Result T E) → IsErr result
    → LeavesOnly old new (RecoversAs slots old.bytes) → SettlesFlag slots old new result
settles_fault slots old new result fails leaves = record {
  crash = leaves;
  durable = no_claim result (IsDurable new) fails;
  table = no_claim result (HasTable slots (recovered slots old.bytes) new.bytes) fails;
  clear = no_claim result (slice_index new.bytes 4096 ≡ 0) fails;
}

module _ (slots : ℕ) (old mid : DiskState) (long : length old.bytes ≡ image_len slots) (durable : IsDurable old)
    (reads : ReadsOnly old mid) where
  -- while marked slots and the version are redone
  pub leaves_redoing : (new : DiskState) → is_flag_set old.bytes ≡ true → Keeps (OutsideRedone slots mid.bytes) mid new
      → LeavesOnly old new (RecoversAs slots old.bytes)
  leaves_redoing new set keeps =
      phase_leaves (OutsideRedone slots mid.bytes) (RecoversAs slots old.bytes) old mid new
      (leaves_reading slots old mid durable reads) (IsDurable-reads old mid durable reads) keeps
      (λ image. subst (λ (l : List ℕ). SameAt (OutsideRedone slots l) l image → RecoversAs slots old.bytes image)
      (sym reads.bytes) (while_redone slots old.bytes long set image))

  module _ (next : DiskState) (set : is_flag_set old.bytes ≡ true)
      (kept : Keeps (OutsideRedone slots mid.bytes) mid next) (redone : IsRedone slots mid.bytes next.bytes)
      (next_durable : IsDurable next) where
    same_marks : SameAt (OutsideRedone slots old.bytes) old.bytes next.bytes
    same_marks = subst (λ (l : List ℕ). SameAt (OutsideRedone slots l) l next.bytes) reads.bytes kept.reads

    next_table : HasTable slots (recovered slots old.bytes) next.bytes
    next_table = table_redone slots old.bytes long set next.bytes same_marks
        (subst (λ (l : List ℕ). IsRedone slots l next.bytes) reads.bytes redone)

    next_redo : HasRedo slots (recovered slots old.bytes) next.bytes
    next_redo = redo_kept slots old.bytes long set next.bytes same_marks

    -- the flag is cleared
    pub settles_cleared : {T E : Type 0} (new : DiskState) (result : Result T E)
        → Reaches (IsApart 4096 1) (λ image. image ≡ overwrite next.bytes 4096 (0 ∷ [])) next new result
        → OnOk result (IsDurable new) → SettlesFlag slots old new result
    settles_cleared new result reaches new_durable = record {
      crash =
          phase_leaves (IsApart 4096 1) (RecoversAs slots old.bytes) old next new
          (leaves_redoing next set kept) next_durable reaches.keeps
          (λ image same. while_cleared slots old.bytes long next.bytes image
          (same_marks.same_length ∙ long) next_table next_redo same);
      durable = new_durable;
      table = on_ok_map result (new.bytes ≡ overwrite next.bytes 4096 (0 ∷ []))
          (HasTable slots (recovered slots old.bytes) new.bytes)
          (λ is. HasTable-same slots (IsApart 4096 1)
          (recovered slots old.bytes) next.bytes new.bytes (λ place low. inl low)
          (λ place low high. inr (omega (arith, shadow_end slots, marks_end slots))) reaches.keeps.reads next_table)
          reaches.done;
      clear = on_ok_map result (new.bytes ≡ overwrite next.bytes 4096 (0 ∷ [])) (slice_index new.bytes 4096 ≡ 0)
          (λ is. ap (λ (l : List ℕ). slice_index l 4096) is
          ∙ slice_index-overwrite next.bytes 4096 0
          (omega (arith, same_marks.same_length, long, table_end slots, shadow_end slots, marks_end slots)))
          reaches.done;
    }

-- the journal was empty
pub recovers_empty : {T E : Type 0} (slots : ℕ) (old new : DiskState) (value : T) → length old.bytes ≡ image_len slots
    → IsDurable old → ReadsOnly old new → HasEmptyJournal slots old.bytes
    → RecoversDurable {E = E} slots old new (Ok value)
recovers_empty slots old new value long durable reads empty = record {
  crash = leaves_reading slots old new durable reads;
  durable = IsDurable-reads old new durable reads;
  done = reads.bytes ∙ sym (recovered_empty slots old.bytes long empty);
}

-- an error, with what was left until then
pub recovers_fault : {T E : Type 0} (slots : ℕ) (old new : DiskState) (result : Result T E) → IsErr result
    → LeavesOnly old new (RecoversAs slots old.bytes) → RecoversDurable slots old new result
recovers_fault slots old new result fails leaves = record {
  crash = leaves;
  durable = no_claim result (IsDurable new) fails;
  done = no_claim result (new.bytes ≡ recovered slots old.bytes) fails;
}

-- the flag is settled after reads alone
pub leaves_settling : {T E : Type 0} (slots : ℕ) (old mid new : DiskState) (result : Result T E) → IsDurable old
    → ReadsOnly old mid → SettlesFlag slots mid new result → LeavesOnly old new (RecoversAs slots old.bytes)
leaves_settling slots old mid new result durable reads settles =
    LeavesOnly-trans old mid new (RecoversAs slots old.bytes) (leaves_reading slots old mid durable reads)
    (subst (λ (l : List ℕ). LeavesOnly mid new (RecoversAs slots l)) reads.bytes settles.crash)

-- the journal is erased at last
pub recovers_erased : {T E U F : Type 0} (slots : ℕ) (old mid next new : DiskState) (value : U) (result : Result T E)
    → length old.bytes ≡ image_len slots → length next.bytes ≡ image_len slots → IsDurable old → ReadsOnly old mid
    → SettlesFlag {E = F} slots mid next (Ok value)
    → Reaches (IsApart 4097 (journal_len slots - 1)) (IsZeroAt 4097 (journal_len slots - 1)) next new result
    → OnOk result (IsDurable new) → RecoversDurable slots old new result
recovers_erased slots old mid next new value result long next_long durable reads settles reaches new_durable =
    let table : HasTable slots (recovered slots old.bytes) next.bytes =
    subst (λ (l : List ℕ). HasTable slots (recovered slots l) next.bytes) reads.bytes settles.table in
    record {
      crash =
          phase_leaves (IsApart 4097 (journal_len slots - 1)) (RecoversAs slots old.bytes) old next new
          (leaves_settling slots old mid next (Ok value) durable reads settles) settles.durable reaches.keeps
          (λ image same. while_erased slots old.bytes long next.bytes image next_long table settles.clear same);
      durable = new_durable;
      done = on_ok_map result (IsZeroAt 4097 (journal_len slots - 1) new.bytes) (new.bytes ≡ recovered slots old.bytes)
          (λ zero. when_erased slots old.bytes long next.bytes new.bytes next_long table
          settles.clear reaches.keeps.reads zero) reaches.done;
    }

-- the first sync failed
pub recovers_unsynced : {T E U F : Type 0} (slots : ℕ) (old new : DiskState) (sync_result : Result U F)
    (result : Result T E) → IsErr result → IsObservable old → IsSync old new sync_result → Recovers slots old new result
recovers_unsynced slots old new sync_result result fails observable sync =
    let effect = sync.observed observable in
    record {
      crash = record { time = effect.time; each = λ image left. inl (effect.during image left) };
      reads = recovers_alike slots old.bytes new.bytes effect.bytes;
      durable = no_claim result (IsDurable new) fails;
      done = no_claim result (new.bytes ≡ recovered slots old.bytes) fails;
      empty = no_claim result (HasEmptyJournal slots new.bytes) fails;
    }

-- a sync, and the recovery of a durable disk
pub recovers_synced : {T E U F : Type 0} (slots : ℕ) (old mid new : DiskState) (value : U) (result : Result T E)
    → length old.bytes ≡ image_len slots → IsObservable old → IsSound new → IsSync {E = F} old mid (Ok value)
    → RecoversDurable slots mid new result → Recovers slots old new result
recovers_synced slots old mid new value result long observable sound sync recovers =
    let effect = sync.observed observable in
    let P = λ (image : List ℕ). old.crash_images image ⊎ RecoversAs slots old.bytes image in
    let since : LeavesOnly mid new (RecoversAs slots old.bytes) =
    subst (λ (l : List ℕ). LeavesOnly mid new (RecoversAs slots l)) effect.bytes recovers.crash in
    let done = subst (λ (l : List ℕ). OnOk result (new.bytes ≡ recovered slots l)) effect.bytes recovers.done in
    record {
      crash =
          LeavesOnly-trans old mid new P (record {
            time = effect.time;
            each = λ image left. inl (effect.during image left);
          })
          (LeavesOnly-weaken mid new (RecoversAs slots old.bytes) P (λ image here. inr here) since);
      reads = reads_after mid new (RecoversAs slots old.bytes) sound since;
      durable = recovers.durable;
      done = done;
      empty = on_ok_map result (new.bytes ≡ recovered slots old.bytes) (HasEmptyJournal slots new.bytes)
          (λ is. subst (HasEmptyJournal slots) (sym is) (empty-recovered slots old.bytes long)) done;
    }
