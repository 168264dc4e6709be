-- The disk on the way of a scrub.
use Rattle.std.proofs.Common.{◌≡◌, ◌⊎◌, ℕ, ◌+◌, ◌<◌, List, length, slice_index, sym, ap, ◌∙◌, subst, inl, inr, ⊎_elim}
use Rattle.std.proofs.Common.{arith, Result, Ok, Err, OnOk, IsErr}
use Rattle.std.proofs.lemmas.Bool.{cases_lt}
use Rattle.store_model.specs.Parameters.{table_at, image_len}
use Rattle.store_model.specs.Images.{recovered_slot, recovered, scrubbed_block, scrubbed}
use Rattle.store_model.proofs.ImagesLemmasScrubbed.{scrubbed-recovered}
use Rattle.disk_model.specs.DiskState.{DiskState, IsDurable, IsSound}
use Rattle.disk_model.specs.DiskCalls.{LeavesOnly, raised}
use Rattle.disk_model.proofs.Crashes.{LeavesOnly-trans, LeavesOnly-weaken}
use Rattle.gate_journal.specs.Costs.{opening_writes, opening_syncs}
use Rattle.gate_journal.specs.Places.{SameAt, Keeps, Reaches, Made, Makes}
use Rattle.gate_journal.specs.Phases.{table_slot, HasEmptyJournal}
use Rattle.gate_journal.specs.Recovery.{RecoversAs, Recovers, redo_writes, redo_syncs, erase_writes}
use Rattle.gate_journal.proofs.SoFar.{Comes}
use Rattle.gate_journal.proofs.Places.{Keeps-trans, Keeps-weaken, Keeps-durable, bytes_at-same}
use Rattle.gate_journal.proofs.Calls.{Made-then, Made-as, Makes-then, Makes-as}
use Rattle.gate_journal.proofs.Openings.{opening_of_empty, opening_of_journal, one_or_other}
use Rattle.gate_journal.proofs.Recovering.{table-recovered, long-recovered}
use Rattle.gate_journal.proofs.Stages.{no_claim, on_ok_map}
use Rattle.scrub_free.specs.FreeSlots.{OutsideFreeSlot, OutsideFree, AreScrubbed, block_writes, scrub_writes}
use Rattle.scrub_free.specs.Scrubbing.{ScrubsAs, ScrubsImage, writes_to_scrub, CountsScrub}
use Rattle.scrub_free.proofs.Phases.ScrubPhase.{Recovering, Zeroing}
use Rattle.scrub_free.proofs.Free.{slot_first, beside}
use Rattle.scrub_free.proofs.Phases.{when_zeroed, scrubbed_in_phase}
use Rattle.scrub_free.proofs.Counting.{scrub_writes-more, scrub_writes-same}

-- ---- the loop over the slots

-- what it keeps, and what it has come to before this slot
abbrev pub ComesBefore : ℕ → ℕ → DiskState → DiskState → Type 0
ComesBefore slots slot old mid = Comes (OutsideFree slots old.bytes) (AreScrubbed slots slot old.bytes)
    (scrub_writes (table_slot slots old.bytes) slot) old mid

module _ (slots slot : ℕ) (old mid new : DiskState) (below : slot < slots) (sound : IsSound mid)
    (comes : ComesBefore slots slot old mid) where
  slot_here : table_slot slots mid.bytes slot ≡ table_slot slots old.bytes slot
  slot_here = comes.done.others slot (omega arith) below

  -- the writes of this slot and of those before it
  pub writes_so_far : scrub_writes (table_slot slots old.bytes) slot + block_writes (table_slot slots mid.bytes slot)
      ≡ scrub_writes (table_slot slots old.bytes) (slot + 1)
  writes_so_far =
      omega (
        arith,
        scrub_writes-more (table_slot slots old.bytes) slot,
        ap (λ (bytes : List ℕ). block_writes bytes) slot_here,
      )

  spared : (place : ℕ) → OutsideFree slots old.bytes place → OutsideFreeSlot slots slot mid.bytes place
  spared place outside free = outside slot below
      (sym (slot_first slots slot old.bytes) ∙ ap (λ (bytes : List ℕ). slice_index bytes 0) (sym slot_here)
      ∙ slot_first slots slot mid.bytes ∙ free)

  pub slot_keeps : Keeps (OutsideFreeSlot slots slot mid.bytes) mid new → Keeps (OutsideFree slots old.bytes) old new
  slot_keeps keeps = Keeps-trans (OutsideFree slots old.bytes) old mid new sound
      comes.keeps (Keeps-weaken (OutsideFreeSlot slots slot mid.bytes)
      (OutsideFree slots old.bytes) mid new spared keeps)

  other_kept : Keeps (OutsideFreeSlot slots slot mid.bytes) mid new → (i : ℕ) → i < slots → (slot ≡ i → ⊥)
      → table_slot slots new.bytes i ≡ table_slot slots mid.bytes i
  other_kept keeps i i_below differs =
      bytes_at-same (OutsideFreeSlot slots slot mid.bytes)
      (table_at slots i) 4096 mid.bytes new.bytes (beside slots i slot mid.bytes i_below below differs) keeps.reads

  -- one slot more
  pub slot_step : {E : Type 0} → Reaches {T = Unit {0}} {E = E} (OutsideFreeSlot slots slot mid.bytes)
      (λ image. table_slot slots image slot ≡ scrubbed_block (table_slot slots mid.bytes slot)) mid new (Ok tt)
      → Makes {T = Unit {0}} {E = E} (block_writes (table_slot slots mid.bytes slot)) 0 mid new (Ok tt)
      → ComesBefore slots (slot + 1) old new
  slot_step reaches makes = record {
    keeps = slot_keeps reaches.keeps;
    done = record {
      scrubbed = λ i low. elim (cases_lt i slot) [
        | inl before ↦ other_kept reaches.keeps i (omega arith) (λ same. omega arith) ∙ comes.done.scrubbed i before
        | inr here ↦
            let same : slot ≡ i = omega arith in
            subst (λ (k : ℕ). table_slot slots new.bytes k ≡ scrubbed_block (table_slot slots old.bytes k)) same
            (reaches.done ∙ ap scrubbed_block slot_here)
      ];
      others = λ i low i_below. other_kept reaches.keeps i i_below (λ same. omega arith)
          ∙ comes.done.others i (omega arith) i_below;
    };
    made = Made-as old new (scrub_writes (table_slot slots old.bytes) slot
        + block_writes (table_slot slots mid.bytes slot)) (0 + 0) (scrub_writes (table_slot slots old.bytes) (slot + 1))
        0 writes_so_far (omega arith)
        (Made-then old mid new tt (scrub_writes (table_slot slots old.bytes) slot) 0
        (block_writes (table_slot slots mid.bytes slot)) 0 comes.made makes);
  }

-- ---- the recovery, and the slots behind it

-- what a crash may leave
abbrev LeavesScrub : ℕ → DiskState → List ℕ → Type 0
LeavesScrub slots old image = old.crash_images image ⊎ ScrubsAs slots old.bytes image

recovering : (slots : ℕ) (old new : DiskState) → length old.bytes ≡ image_len slots
    → LeavesOnly old new (λ image. old.crash_images image ⊎ RecoversAs slots old.bytes image)
    → LeavesOnly old new (LeavesScrub slots old)
recovering slots old new long crash =
    let leads : (image : List ℕ) → old.crash_images image ⊎ RecoversAs slots old.bytes image
    → LeavesScrub slots old image = λ image. ⊎_elim
    (λ (before : old.crash_images image). inl before)
    (λ (is : RecoversAs slots old.bytes image). inr (scrubbed_in_phase slots old.bytes long Recovering image is)) in
    LeavesOnly-weaken old new (λ image. old.crash_images image ⊎ RecoversAs slots old.bytes image)
    (LeavesScrub slots old) leads crash

-- the recovery failed
pub scrubs_unrecovered : {T E U F : Type 0} (slots : ℕ) (old new : DiskState) (recovery : Result U F)
    (result : Result T E) → length old.bytes ≡ image_len slots → IsErr result → Recovers slots old new recovery
    → ScrubsImage slots old new result
scrubs_unrecovered slots old new recovery result long fails recovers = record {
  crash = recovering slots old new long recovers.crash;
  reads = scrubbed_in_phase slots old.bytes long Recovering new.bytes recovers.reads;
  durable = no_claim result (IsDurable new) fails;
  done = no_claim result (new.bytes ≡ scrubbed slots old.bytes) fails;
}

-- the slots are made zero
pub scrubs_recovered : {T E U F : Type 0} (slots : ℕ) (old mid new : DiskState) (value : U) (result : Result T E)
    → length old.bytes ≡ image_len slots → Recovers {E = F} slots old mid (Ok value)
    → Reaches (OutsideFree slots mid.bytes) (AreScrubbed slots slots mid.bytes) mid new result
    → OnOk result (IsDurable new) → ScrubsImage slots old new result
scrubs_recovered slots old mid new value result long recovers reaches durable =
    let is : mid.bytes ≡ recovered slots old.bytes = recovers.done in
    let zeroing : (image : List ℕ) → SameAt (OutsideFree slots mid.bytes) mid.bytes image
    → ScrubsAs slots old.bytes image = λ image same.
    scrubbed_in_phase slots old.bytes long Zeroing image
    (subst (λ (bytes : List ℕ). SameAt (OutsideFree slots bytes) bytes image) is same) in
    record {
      crash =
          LeavesOnly-trans old mid new (LeavesScrub slots old) (recovering slots old mid long recovers.crash)
          (LeavesOnly-weaken mid new (SameAt (OutsideFree slots mid.bytes) mid.bytes) (LeavesScrub slots old)
          (λ image same. inr (zeroing image same))
          (Keeps-durable (OutsideFree slots mid.bytes) mid new recovers.durable reaches.keeps));
      reads = zeroing new.bytes reaches.keeps.reads;
      durable = durable;
      done = on_ok_map result (AreScrubbed slots slots mid.bytes new.bytes) (new.bytes ≡ scrubbed slots old.bytes)
          (λ are. when_zeroed slots mid.bytes (ap length is ∙ long-recovered slots old.bytes long)
          recovers.empty new.bytes reaches.keeps.reads are ∙ ap (scrubbed slots) is
          ∙ scrubbed-recovered slots old.bytes long) reaches.done;
    }

-- ---- the writes and syncs

-- what a recovery makes
pub record MakesRecovery {T E : Type 0} (slots : ℕ) (old new : DiskState) (result : Result T E) : Type 0 where
  pub quiet : HasEmptyJournal slots old.bytes → new.writes ≡ old.writes
  pub quiet_syncs : HasEmptyJournal slots old.bytes → new.syncs ≡ raised old.syncs
  pub makes : (HasEmptyJournal slots old.bytes → ⊥)
      → Makes (redo_writes slots old.bytes + erase_writes slots old.bytes) (redo_syncs old.bytes + 2) old new result

-- so it makes the writes of opening the image, and one sync fewer
recovery_made : {T E : Type 0} (slots : ℕ) (old new : DiskState) (value : T)
    → MakesRecovery {E = E} slots old new (Ok value)
    → (syncs : ℕ) × (syncs + 1 ≡ opening_syncs slots old.bytes) × Made (opening_writes slots old.bytes) syncs old new
recovery_made slots old new value recovery =
    ⊎_elim
    (λ (empty : HasEmptyJournal slots old.bytes).
    let opening = opening_of_empty slots old.bytes empty in (
      1,
      omega (arith, opening.1),
      record {
        write_count = omega (arith, opening.0, recovery.quiet empty);
        sync_count = omega (arith, recovery.quiet_syncs empty);
      },
    ))
    (λ (some : HasEmptyJournal slots old.bytes → ⊥).
    let makes = recovery.makes some in (
      redo_syncs old.bytes + 2,
      omega (arith, opening_of_journal slots old.bytes some),
      record {
        write_count = omega (arith, makes.write_count);
        sync_count = omega (arith, makes.sync_count);
      },
    ))
    (one_or_other slots old.bytes)

-- the counts, as far as they go
counted : {T E : Type 0} (slots : ℕ) (old new : DiskState) (result : Result T E)
    → Makes (writes_to_scrub slots old.bytes) (opening_syncs slots old.bytes) old new result
    → CountsScrub slots old new result
counted slots old new (Ok value) makes = record {
  made = record { write_count = omega (arith, makes.write_count); sync_count = omega (arith, makes.sync_count) };
  limit = record { write_limit = omega (arith, makes.write_limit); sync_limit = omega (arith, makes.sync_limit) };
}
counted slots old new (Err error) makes = record {
  made = tt;
  limit = record { write_limit = omega (arith, makes.write_limit); sync_limit = omega (arith, makes.sync_limit) };
}

-- the recovery failed
pub counts_unrecovered : {T E U F : Type 0} (slots : ℕ) (old new : DiskState) (recovery : Result U F)
    (result : Result T E) → IsErr result → MakesRecovery slots old new recovery → CountsScrub slots old new result
counts_unrecovered slots old new recovery result fails recovery_is = record {
  made = no_claim result (Made (writes_to_scrub slots old.bytes) (opening_syncs slots old.bytes) old new) fails;
  limit =
      ⊎_elim
      (λ (empty : HasEmptyJournal slots old.bytes). record {
        write_limit = omega (arith, recovery_is.quiet empty);
        sync_limit = omega (arith, (opening_of_empty slots old.bytes empty).1, recovery_is.quiet_syncs empty);
      })
      (λ (some : HasEmptyJournal slots old.bytes → ⊥). record {
        write_limit = omega (arith, (recovery_is.makes some).write_limit);
        sync_limit = omega (arith, opening_of_journal slots old.bytes some, (recovery_is.makes some).sync_limit);
      })
      (one_or_other slots old.bytes);
}

-- as many slots are to be scrubbed behind a recovery as were to be recovered
writes_recovered : (slots : ℕ) (old bytes : List ℕ) → length old ≡ image_len slots → bytes ≡ recovered slots old
    → scrub_writes (table_slot slots bytes) slots ≡ scrub_writes (recovered_slot slots old) slots
writes_recovered slots old bytes long is =
    scrub_writes-same (table_slot slots bytes) (recovered_slot slots old) slots
    (λ i below. ap (λ (image : List ℕ). table_slot slots image i) is ∙ table-recovered slots old long i below)

-- the slots are made zero
pub counts_recovered : {T E U F : Type 0} (slots : ℕ) (old mid new : DiskState) (value : U) (result : Result T E)
    → length old.bytes ≡ image_len slots → mid.bytes ≡ recovered slots old.bytes
    → MakesRecovery {E = F} slots old mid (Ok value)
    → Makes (scrub_writes (table_slot slots mid.bytes) slots) 1 mid new result → CountsScrub slots old new result
counts_recovered slots old mid new value result long is recovery then =
    let more = scrub_writes (table_slot slots mid.bytes) slots in
    let first = recovery_made slots old mid value recovery in
    let same : more ≡ scrub_writes (recovered_slot slots old.bytes) slots =
    writes_recovered slots old.bytes mid.bytes long is in
    counted slots old new result
    (Makes-as old new result (opening_writes slots old.bytes + more) (first.0 + 1) (writes_to_scrub slots old.bytes)
    (opening_syncs slots old.bytes) (omega (arith, same)) first.1
    (Makes-then old mid new result (opening_writes slots old.bytes) first.0 more 1 first.2 then))
