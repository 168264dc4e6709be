-- A disk that is recovered, and of which slots are changed then.
use Rattle.std.proofs.Common.{◌≡◌, ◌⊎◌, ℕ, zero, suc, ◌+◌, ◌*◌, ◌<◌, List, length, Bool, if◌then◌else◌, refl, sym, ap}
use Rattle.std.proofs.Common.{◌∙◌, subst, inl, inr, ⊎_elim, arith, Result, Ok, Err, OnOk, IsErr}
use Rattle.std.proofs.lemmas.Bool.{cases_Bool}
use Rattle.store_model.specs.Parameters.{image_len}
use Rattle.store_model.specs.Images.{recovered}
use Rattle.disk_model.specs.DiskState.{DiskState, IsDurable}
use Rattle.disk_model.specs.DiskCalls.{LeavesOnly, raised}
use Rattle.disk_model.proofs.Crashes.{LeavesOnly-trans, LeavesOnly-weaken}
use Rattle.gate_journal.specs.Changes.{Changes, with_slots, RecoversToEither, Commits}
use Rattle.gate_journal.specs.Costs.{has_journal, opening_writes, opening_syncs, commit_writes, commit_syncs}
use Rattle.gate_journal.specs.Costs.{MadeAtMost, CountsCommit}
use Rattle.gate_journal.specs.Phases.{HasEmptyJournal}
use Rattle.gate_journal.specs.Places.{Made, Makes, ReadsOnly}
use Rattle.gate_journal.specs.Recovery.{RecoversAs, Recovers, redo_writes, redo_syncs, erase_writes}
use Rattle.gate_journal.proofs.Openings.{opening_of_empty, opening_of_journal, one_or_other}
use Rattle.gate_journal.proofs.Recovering.{long-recovered}
use Rattle.gate_journal.proofs.Stages.{no_claim, on_ok_map}
use Rattle.mirror_copy.specs.Differing.{recovery_syncs, rewrite_writes, rewrite_syncs}
use Rattle.mirror_copy.specs.MirrorCalls.{RewritesImage}

-- ---- what a crash may leave

-- on the way to the target
abbrev pub LeavesRewrite : ℕ → List ℕ → DiskState → List ℕ → Type 0
LeavesRewrite slots target old image = old.crash_images image
    ⊎ RecoversToEither slots (recovered slots old.bytes) target image

-- what recovers as before
pub recovers_old : (slots : ℕ) (target old image : List ℕ) → length old ≡ image_len slots → RecoversAs slots old image
    → RecoversToEither slots (recovered slots old) target image
recovers_old slots target old image long is = record {
  same_length = is.same_length ∙ long ∙ sym (long-recovered slots old long);
  recovers = inl is.recovers;
}

-- while it is recovered
recovering : (slots : ℕ) (target : List ℕ) (old new : DiskState) → length old.bytes ≡ image_len slots
    → LeavesOnly old new (λ image. old.crash_images image ⊎ RecoversAs slots old.bytes image)
    → LeavesOnly old new (LeavesRewrite slots target old)
recovering slots target old new long crash =
    LeavesOnly-weaken old new (λ image. old.crash_images image ⊎ RecoversAs slots old.bytes image)
    (LeavesRewrite slots target old)
    (λ image. ⊎_elim (λ (before : old.crash_images image). inl before)
    (λ (is : RecoversAs slots old.bytes image). inr (recovers_old slots target old.bytes image long is)))
    crash

-- ---- the writes and syncs

-- what a recovery makes
pub record MakesRecovery {T E : Type 0} (slots : ℕ) (old new : DiskState) (result : Result T E) : Type 0 where
  pub quiet : HasEmptyJournal slots old.bytes → new.writes ≡ old.writes
  pub quiet_syncs : HasEmptyJournal slots old.bytes → new.syncs ≡ raised old.syncs
  pub makes : (HasEmptyJournal slots old.bytes → ⊥)
      → Makes (redo_writes slots old.bytes + erase_writes slots old.bytes) (redo_syncs old.bytes + 2) old new result

-- a recovery makes one sync fewer than opening the image
one_fewer : (slots : ℕ) (image : List ℕ) → recovery_syncs slots image + 1 ≡ opening_syncs slots image
one_fewer slots image = elim (cases_Bool (has_journal slots image)) [
  | inl is ↦ omega (
    arith,
    ap (λ (b : Bool). if b then redo_syncs image + 2 else 1) is,
    ap (λ (b : Bool). if b then redo_syncs image + 3 else 2) is,
  )
  | inr is ↦ omega (
    arith,
    ap (λ (b : Bool). if b then redo_syncs image + 2 else 1) is,
    ap (λ (b : Bool). if b then redo_syncs image + 3 else 2) is,
  )
]

-- so many does a recovery make, where it answers Ok
recovery_made : {T E : Type 0} (slots : ℕ) (old new : DiskState) (value : T)
    → MakesRecovery {E = E} slots old new (Ok value)
    → Made (opening_writes slots old.bytes) (recovery_syncs slots old.bytes) old new
recovery_made slots old new value recovery =
    let fewer = one_fewer slots old.bytes in
    ⊎_elim
    (λ (empty : HasEmptyJournal slots old.bytes).
    let opening = opening_of_empty slots old.bytes empty in
    record {
      write_count = omega (arith, opening.0, recovery.quiet empty);
      sync_count = omega (arith, opening.1, fewer, recovery.quiet_syncs empty);
    })
    (λ (some : HasEmptyJournal slots old.bytes → ⊥).
    let makes = recovery.makes some in
    record {
      write_count = omega (arith, makes.write_count);
      sync_count = omega (arith, makes.sync_count, fewer, opening_of_journal slots old.bytes some);
    })
    (one_or_other slots old.bytes)

-- and with a fault no more
recovery_limit : {T E : Type 0} (slots : ℕ) (old new : DiskState) (result : Result T E)
    → MakesRecovery slots old new result
    → MadeAtMost (opening_writes slots old.bytes) (recovery_syncs slots old.bytes) old new
recovery_limit slots old new result recovery =
    let fewer = one_fewer slots old.bytes in
    ⊎_elim
    (λ (empty : HasEmptyJournal slots old.bytes).
    let opening = opening_of_empty slots old.bytes empty in
    record {
      write_limit = omega (arith, recovery.quiet empty);
      sync_limit = omega (arith, opening.1, fewer, recovery.quiet_syncs empty);
    })
    (λ (some : HasEmptyJournal slots old.bytes → ⊥).
    let makes = recovery.makes some in
    record {
      write_limit = omega (arith, makes.write_limit);
      sync_limit = omega (arith, makes.sync_limit, fewer, opening_of_journal slots old.bytes some);
    })
    (one_or_other slots old.bytes)

-- no call counts
none_made : {T E : Type 0} (disk : DiskState) (result : Result T E) → OnOk result (Made 0 0 disk disk)
none_made disk (Ok value) = record { write_count = omega arith; sync_count = omega arith }
none_made disk (Err fault) = tt

-- what a commit counts, with changes or without
pub counts_commit : {T E : Type 0} (count : ℕ) (old new : DiskState) (result : Result T E) → (count ≡ 0 → new ≡ old)
    → (0 < count → Makes (5 * count + 2) 5 old new result) → CountsCommit count old new result
counts_commit zero old new result none makes =
    subst (λ (disk : DiskState). CountsCommit 0 old disk result) (sym (none refl))
    (record { made = none_made old result; limit = record { write_limit = omega arith; sync_limit = omega arith } })
counts_commit (suc n) old new (Ok value) none makes =
    let made = makes (omega arith) in
    record {
      made = record { write_count = omega (arith, made.write_count); sync_count = omega (arith, made.sync_count) };
      limit = record { write_limit = omega (arith, made.write_limit); sync_limit = omega (arith, made.sync_limit) };
    }
counts_commit (suc n) old new (Err fault) none makes =
    let made = makes (omega arith) in
    record {
      made = tt;
      limit = record { write_limit = omega (arith, made.write_limit); sync_limit = omega (arith, made.sync_limit) };
    }

-- calls behind those that were made
made_both : {T E : Type 0} (w s v t : ℕ) (old mid new : DiskState) (result : Result T E) → Made w s old mid
    → OnOk result (Made v t mid new) → OnOk result (Made (w + v) (s + t) old new)
made_both w s v t old mid new result before behind =
    on_ok_map result (Made v t mid new) (Made (w + v) (s + t) old new)
    (λ made. record {
      write_count = omega (arith, before.write_count, made.write_count);
      sync_count = omega (arith, before.sync_count, made.sync_count);
    })
    behind

limit_both : (w s v t : ℕ) (old mid new : DiskState) → Made w s old mid → MadeAtMost v t mid new
    → MadeAtMost (w + v) (s + t) old new
limit_both w s v t old mid new before behind = record {
  write_limit = omega (arith, before.write_count, behind.write_limit);
  sync_limit = omega (arith, before.sync_count, behind.sync_limit);
}

-- ---- a recovery, and a commit behind it

-- the recovery failed
pub unrecovered : {T E U F : Type 0} (slots : ℕ) (target : List ℕ) (count : ℕ) (old new : DiskState)
    (recovery : Result U F) (result : Result T E) → length old.bytes ≡ image_len slots → IsErr result
    → Recovers slots old new recovery → MakesRecovery slots old new recovery
    → RewritesImage slots target count old new result
unrecovered slots target count old new recovery result long fails recovers makes =
    let limit = recovery_limit slots old new recovery makes in
    record {
      crash = recovering slots target old new long recovers.crash;
      reads = recovers_old slots target old.bytes new.bytes long recovers.reads;
      durable = no_claim result (IsDurable new) fails;
      done = no_claim result (new.bytes ≡ target) fails;
      made = no_claim result (Made (rewrite_writes slots old.bytes count) (rewrite_syncs slots old.bytes count) old new)
          fails;
      limit = record { write_limit = omega (arith, limit.write_limit); sync_limit = omega (arith, limit.sync_limit) };
    }

-- the slots are changed
pub rewritten : {T E U F : Type 0} (slots : ℕ) (changes : Changes) (old mid new : DiskState) (value : U)
    (result : Result T E) → length old.bytes ≡ image_len slots → Recovers {E = F} slots old mid (Ok value)
    → MakesRecovery {E = F} slots old mid (Ok value)
    → Commits slots changes mid new result → CountsCommit changes.count mid new result
    → RewritesImage slots (with_slots slots changes (recovered slots old.bytes)) changes.count old new result
rewritten slots changes old mid new value result long recovers makes commits counts =
    let is : mid.bytes ≡ recovered slots old.bytes = recovers.done in
    let target = with_slots slots changes (recovered slots old.bytes) in
    let leads : (image : List ℕ) → RecoversToEither slots mid.bytes (with_slots slots changes mid.bytes) image
    → RecoversToEither slots (recovered slots old.bytes) target image = λ image here.
    subst (λ (bytes : List ℕ). RecoversToEither slots bytes (with_slots slots changes bytes) image) is here in
    let first = recovery_made slots old mid value makes in
    record {
      crash =
          LeavesOnly-trans old mid new (LeavesRewrite slots target old)
          (recovering slots target old mid long recovers.crash)
          (LeavesOnly-weaken mid new (RecoversToEither slots mid.bytes (with_slots slots changes mid.bytes))
          (LeavesRewrite slots target old) (λ image here. inr (leads image here)) commits.crash);
      reads = leads new.bytes commits.reads;
      durable = commits.durable;
      done = on_ok_map result (new.bytes ≡ with_slots slots changes mid.bytes) (new.bytes ≡ target)
          (λ same. same ∙ ap (with_slots slots changes) is) commits.done;
      made = made_both (opening_writes slots old.bytes) (recovery_syncs slots old.bytes) (commit_writes changes.count)
          (commit_syncs changes.count) old mid new result first counts.made;
      limit = limit_both (opening_writes slots old.bytes) (recovery_syncs slots old.bytes) (commit_writes changes.count)
          (commit_syncs changes.count) old mid new first counts.limit;
    }

-- ---- beside other calls

-- a disk that is only read, and not rewritten
pub only_read : {T E : Type 0} (slots : ℕ) (target : List ℕ) (count : ℕ) (old new : DiskState) (result : Result T E)
    → length old.bytes ≡ image_len slots → IsErr result → ReadsOnly old new
    → RewritesImage slots target count old new result
only_read slots target count old new result long fails reads = record {
  crash = LeavesOnly-weaken old new old.crash_images (LeavesRewrite slots target old)
      (λ image before. inl before) reads.leaves;
  reads = record {
    same_length = ap length reads.bytes ∙ long ∙ sym (long-recovered slots old.bytes long);
    recovers = inl (ap (recovered slots) reads.bytes);
  };
  durable = no_claim result (IsDurable new) fails;
  done = no_claim result (new.bytes ≡ target) fails;
  made = no_claim result (Made (rewrite_writes slots old.bytes count) (rewrite_syncs slots old.bytes count) old new)
      fails;
  limit = record { write_limit = omega (arith, reads.write_count); sync_limit = omega (arith, reads.sync_count) };
}

-- a disk that is rewritten behind reads
pub behind_reads : {T E : Type 0} (slots : ℕ) (target : List ℕ) (count : ℕ) (old mid new : DiskState)
    (result : Result T E) → ReadsOnly old mid → RewritesImage slots target count mid new result
    → RewritesImage slots target count old new result
behind_reads slots target count old mid new result reads rewrites =
    let leads : (image : List ℕ) → RecoversToEither slots (recovered slots mid.bytes) target image
    → RecoversToEither slots (recovered slots old.bytes) target image = λ image here.
    subst (λ (bytes : List ℕ). RecoversToEither slots (recovered slots bytes) target image) reads.bytes here in
    let writes : rewrite_writes slots mid.bytes count ≡ rewrite_writes slots old.bytes count =
    ap (λ (bytes : List ℕ). rewrite_writes slots bytes count) reads.bytes in
    let syncs : rewrite_syncs slots mid.bytes count ≡ rewrite_syncs slots old.bytes count =
    ap (λ (bytes : List ℕ). rewrite_syncs slots bytes count) reads.bytes in
    record {
      crash =
          LeavesOnly-trans old mid new (LeavesRewrite slots target old)
          (LeavesOnly-weaken old mid old.crash_images (LeavesRewrite slots target old)
          (λ image before. inl before) reads.leaves)
          (LeavesOnly-weaken mid new (LeavesRewrite slots target mid) (LeavesRewrite slots target old)
          (λ image. ⊎_elim (λ (before : mid.crash_images image). inl ((reads.crash image).0 before))
          (λ (is : RecoversToEither slots (recovered slots mid.bytes) target image). inr (leads image is)))
          rewrites.crash);
      reads = leads new.bytes rewrites.reads;
      durable = rewrites.durable;
      done = rewrites.done;
      made = on_ok_map result (Made (rewrite_writes slots mid.bytes count)
          (rewrite_syncs slots mid.bytes count) mid new)
          (Made (rewrite_writes slots old.bytes count) (rewrite_syncs slots old.bytes count) old new)
          (λ made. record {
            write_count = omega (arith, writes, made.write_count, reads.write_count);
            sync_count = omega (arith, syncs, made.sync_count, reads.sync_count);
          }) rewrites.made;
      limit = record {
        write_limit = omega (arith, writes, rewrites.limit.write_limit, reads.write_count);
        sync_limit = omega (arith, syncs, rewrites.limit.sync_limit, reads.sync_count);
      };
    }

-- another answer of the same kind
pub rewrites_answered : {T U : Type 0} (E F : Type 0) (slots : ℕ) (target : List ℕ) (count : ℕ) (old new : DiskState)
    (value : T) (answer : U) → RewritesImage {E = E} slots target count old new (Ok value)
    → RewritesImage {E = F} slots target count old new (Ok answer)
rewrites_answered E F slots target count old new value answer rewrites = record {
  crash = rewrites.crash;
  reads = rewrites.reads;
  durable = rewrites.durable;
  done = rewrites.done;
  made = rewrites.made;
  limit = rewrites.limit;
}

pub rewrites_failed : {E F : Type 0} (T U : Type 0) (slots : ℕ) (target : List ℕ) (count : ℕ) (old new : DiskState)
    (fault : E) (answer : F) → RewritesImage {T = T} slots target count old new (Err fault)
    → RewritesImage {T = U} slots target count old new (Err answer)
rewrites_failed T U slots target count old new fault answer rewrites = record {
  crash = rewrites.crash;
  reads = rewrites.reads;
  durable = tt;
  done = tt;
  made = tt;
  limit = rewrites.limit;
}
