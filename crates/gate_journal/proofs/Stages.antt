-- The states of the disk between the phases of a commit.
use Rattle.std.proofs.Common.{◌≡◌, ℕ, List, [], ◌∷◌, slice_index, refl, sym, ap, ◌∙◌, inl, subst, Result, Ok, Err, OnOk}
use Rattle.std.proofs.Common.{IfOk, IsErr, length}
use Rattle.std.proofs.lemmas.Bool.{false≢true}
use Rattle.store_model.specs.Parameters.{image_len}
use Rattle.disk_model.specs.DiskState.{DiskState, IsObservable, IsDurable, IsSound}
use Rattle.disk_model.specs.DiskCalls.{IsCall, LeavesOnly, overwrite}
use Rattle.disk_model.proofs.Crashes.{IsObservable-call, LeavesOnly-refl, LeavesOnly-trans, LeavesOnly-weaken}
use Rattle.disk_model.proofs.Crashes.{MayLeaveOnly-end, MayLeaveOnly-durable}
use Rattle.gate_journal.specs.Places.{IsApart, SameAt, Keeps, Reaches}
use Rattle.gate_journal.specs.declared.commit.Kind.{Kind}
use Rattle.gate_journal.specs.declared.commit.Pass.TheVariants.{Journal, Erase}
use Rattle.gate_journal.specs.Changes.{Changes, AreChanges, with_first, with_slots, RecoversToEither, CommitsTo}
use Rattle.gate_journal.specs.Changes.{Commits}
use Rattle.gate_journal.specs.Passes.{HasPassed, target}
use Rattle.gate_journal.specs.Phases.{HasEmptyJournal}
use Rattle.gate_journal.proofs.Places.{Keeps-durable}
use Rattle.gate_journal.proofs.Phases.{recovered_empty}
use Rattle.gate_journal.proofs.Committing.{OutsideJournal, OutsideTarget, Stands, journaling, journaled, flagging}
use Rattle.gate_journal.proofs.Committing.{flagged, redoing, redone, clearing, erasing, erased, target_empty}

-- a claim of Ok, where the result is an error
pub no_claim : {T E : Type 0} (result : Result T E) (P : Type 0) → IsErr result → OnOk result P
no_claim (Ok value) P fails = absurd (false≢true fails)
no_claim (Err error) P fails = tt

pub on_ok_map : {T E : Type 0} (result : Result T E) (P Q : Type 0) → (P → Q) → OnOk result P → OnOk result Q
on_ok_map (Ok value) P Q leads here = leads here
on_ok_map (Err error) P Q leads here = tt

-- what the disk reads is one of the images that a crash may leave
pub reads_after : (old new : DiskState) (P : List ℕ → Type 0) → IsSound new → LeavesOnly old new P → P new.bytes
reads_after old new P sound leaves = MayLeaveOnly-end old new P sound leaves new.bytes sound.read_image

-- calls that keep some places of a durable disk leave images with P, if each image that is the same there has P
pub phase_leaves : (places : ℕ → Type 0) (P : List ℕ → Type 0) (start old new : DiskState) → LeavesOnly start old P
    → IsDurable old → Keeps places old new → ((image : List ℕ) → SameAt places old.bytes image → P image)
    → LeavesOnly start new P
phase_leaves places P start old new so_far durable keeps leads =
    LeavesOnly-trans start old new P so_far
    (LeavesOnly-weaken old new (SameAt places old.bytes) P leads (Keeps-durable places old new durable keeps))

-- where a commit begins: a durable disk with an empty journal, and changes of its slots
pub record Begins (slots : ℕ) (changes : Changes) (start : DiskState) : Type 0 where
  pub observable : IsObservable start
  pub valid : AreChanges slots changes
  pub long : length start.bytes ≡ image_len slots
  pub empty : HasEmptyJournal slots start.bytes
  pub durable : IsDurable start

-- each image left by a crash recovers to that before the commit or to that which it leads to
abbrev LeavesEither : Kind → ℕ → Changes → DiskState → DiskState → Type 0
LeavesEither kind slots changes start new =
    LeavesOnly start new (RecoversToEither slots start.bytes (target kind slots changes start.bytes))

module _ {slots : ℕ} {changes : Changes} {start : DiskState} where
  pub begins : IsSound start → IsObservable start → AreChanges slots changes → start.size ≡ image_len slots
      → (IsObservable start → HasEmptyJournal slots start.bytes) → (IsObservable start → IsDurable start)
      → Begins slots changes start
  begins sound observable valid size empty durable = record {
    observable = observable;
    valid = valid;
    long = sound.size ∙ size;
    empty = empty observable;
    durable = durable observable;
  }

module _ {slots : ℕ} {changes : Changes} {start : DiskState} (kind : Kind) (begun : Begins slots changes start) where
  -- between two phases: only such images were left, and the disk is durable and stands so
  pub record Stage (to : List ℕ) (disk : DiskState) : Type 0 where
    pub observable : IsObservable disk
    pub leaves : LeavesEither kind slots changes start disk
    pub durable : IsDurable disk
    pub stands : Stands slots changes begun.valid kind to disk.bytes

  pub leaves_journaling : (new : DiskState) → Keeps (OutsideJournal kind slots changes) start new
      → LeavesEither kind slots changes start new
  leaves_journaling new keeps =
      LeavesOnly-weaken start new (SameAt (OutsideJournal kind slots changes) start.bytes)
      (RecoversToEither slots start.bytes (target kind slots changes start.bytes))
      (journaling slots changes begun.valid kind start.bytes begun.long begun.empty)
      (Keeps-durable (OutsideJournal kind slots changes) start new begun.durable keeps)

  pub stage_journaled : {E : Type 0} (new : DiskState) → IsCall {T = Unit {0}} {E = E} start new (Ok tt)
      → (IsObservable start → Reaches {T = Unit {0}} {E = E} (OutsideJournal kind slots changes)
      (HasPassed kind Journal slots changes start.bytes) start new (Ok tt))
      → (IsObservable start → IsDurable new) → Stage start.bytes new
  stage_journaled new call reaches is_durable =
      let reached = reaches begun.observable in
      record {
        observable = IsObservable-call start new (Ok tt) call begun.observable;
        leaves = leaves_journaling new reached.keeps;
        durable = is_durable begun.observable;
        stands = journaled slots changes begun.valid kind
            start.bytes begun.long begun.empty new.bytes reached.keeps.reads reached.done.0 reached.done.1;
      }

  pub leaves_flagging : (old new : DiskState) → Stage start.bytes old → Keeps (IsApart 4096 1) old new
      → LeavesEither kind slots changes start new
  leaves_flagging old new stage keeps =
      phase_leaves (IsApart 4096 1) (RecoversToEither slots start.bytes (target kind slots changes start.bytes)) start
      old new stage.leaves stage.durable keeps
      (λ image same. flagging slots changes begun.valid kind
      start.bytes begun.long begun.empty old.bytes image stage.stands same)

  pub leaves_clearing : (old new : DiskState) → Stage (target kind slots changes start.bytes) old
      → Keeps (IsApart 4096 1) old new → LeavesEither kind slots changes start new
  leaves_clearing old new stage keeps =
      phase_leaves (IsApart 4096 1) (RecoversToEither slots start.bytes (target kind slots changes start.bytes)) start
      old new stage.leaves stage.durable keeps
      (λ image same. clearing slots changes begun.valid kind
      start.bytes begun.long begun.empty old.bytes image stage.stands same)

  -- the flag is written
  stage_written : {E : Type 0} (to : List ℕ) (flag : ℕ) (old new : DiskState)
      → ((new : DiskState) → Keeps (IsApart 4096 1) old new → LeavesEither kind slots changes start new) → Stage to old
      → IsCall {T = Unit {0}} {E = E} old new (Ok tt)
      → (IsObservable old → Reaches {T = Unit {0}} {E = E} (IsApart 4096 1)
      (λ image. image ≡ overwrite old.bytes 4096 (flag ∷ [])) old new (Ok tt)) → (IsObservable old → IsDurable new)
      → Stage to new × (slice_index new.bytes 4096 ≡ flag)
  stage_written to flag old new leaves stage call reaches is_durable =
      let reached = reaches stage.observable in
      let (stands, written) = flagged slots changes begun.valid kind
      start.bytes begun.long begun.empty old.bytes new.bytes flag to reached.done stage.stands in (
        record {
          observable = IsObservable-call old new (Ok tt) call stage.observable;
          leaves = leaves new reached.keeps;
          durable = is_durable stage.observable;
          stands = stands;
        },
        written,
      )

  pub stage_flagged : {E : Type 0} (old new : DiskState) → Stage start.bytes old
      → IsCall {T = Unit {0}} {E = E} old new (Ok tt)
      → (IsObservable old → Reaches {T = Unit {0}} {E = E} (IsApart 4096 1)
      (λ image. image ≡ overwrite old.bytes 4096 (1 ∷ [])) old new (Ok tt))
      → (IsObservable old → IsDurable new) → Stage start.bytes new × (slice_index new.bytes 4096 ≡ 1)
  stage_flagged old new stage = stage_written start.bytes 1 old new
      (λ after keeps. leaves_flagging old after stage keeps) stage

  pub leaves_redoing : (old new : DiskState) → Stage start.bytes old × (slice_index old.bytes 4096 ≡ 1)
      → Keeps (OutsideTarget kind slots changes) old new → LeavesEither kind slots changes start new
  leaves_redoing old new stage keeps =
      phase_leaves (OutsideTarget kind slots changes)
      (RecoversToEither slots start.bytes (target kind slots changes start.bytes)) start old new
      stage.0.leaves stage.0.durable keeps
      (λ image same. redoing slots changes begun.valid kind start.bytes begun.long begun.empty old.bytes image
      stage.0.stands stage.1 same)

  pub stage_redone : {E : Type 0} (old new : DiskState) → Stage start.bytes old × (slice_index old.bytes 4096 ≡ 1)
      → IsCall {T = Unit {0}} {E = E} old new (Ok tt)
      → (IsObservable old → Reaches {T = Unit {0}} {E = E} (OutsideTarget kind slots changes)
      (λ image. image ≡ target kind slots changes old.bytes) old new (Ok tt)) → (IsObservable old → IsDurable new)
      → Stage (target kind slots changes start.bytes) new
  stage_redone old new stage call reaches is_durable =
      let reached = reaches stage.0.observable in
      record {
        observable = IsObservable-call old new (Ok tt) call stage.0.observable;
        leaves = leaves_redoing old new stage reached.keeps;
        durable = is_durable stage.0.observable;
        stands = redone slots changes begun.valid kind
            start.bytes begun.long begun.empty old.bytes new.bytes stage.0.stands reached.done;
      }

  pub stage_cleared : {E : Type 0} (old new : DiskState) → Stage (target kind slots changes start.bytes) old
      → IsCall {T = Unit {0}} {E = E} old new (Ok tt)
      → (IsObservable old → Reaches {T = Unit {0}} {E = E} (IsApart 4096 1)
      (λ image. image ≡ overwrite old.bytes 4096 (0 ∷ [])) old new (Ok tt))
      → (IsObservable old → IsDurable new) → Stage (target kind slots changes start.bytes) new
      × (slice_index new.bytes 4096 ≡ 0)
  stage_cleared old new stage = stage_written (target kind slots changes start.bytes) 0 old new
      (λ after keeps. leaves_clearing old after stage keeps) stage

  leaves_erasing : (old new : DiskState) → Stage (target kind slots changes start.bytes) old
      × (slice_index old.bytes 4096 ≡ 0) → Keeps (OutsideJournal kind slots changes) old new
      → LeavesEither kind slots changes start new
  leaves_erasing old new stage keeps =
      phase_leaves (OutsideJournal kind slots changes)
      (RecoversToEither slots start.bytes (target kind slots changes start.bytes)) start old new
      stage.0.leaves stage.0.durable keeps
      (λ image same. erasing slots changes begun.valid kind start.bytes begun.long begun.empty old.bytes image
      stage.0.stands stage.1 same)

  -- a fault in any phase
  pub commits_fault : {T E U F : Type 0} (old new : DiskState) (failed : Result U F) (result : Result T E)
      → IsErr result → IsObservable old → IsCall old new failed → (IsObservable new → IsSound new)
      → LeavesEither kind slots changes start new
      → CommitsTo slots (target kind slots changes start.bytes) start new result
  commits_fault old new failed result fails observable call sound leaves = record {
    crash = leaves;
    reads = reads_after start new (RecoversToEither slots start.bytes (target kind slots changes start.bytes))
        (sound (IsObservable-call old new failed call observable)) leaves;
    durable = no_claim result (IsDurable new) fails;
    done = no_claim result (new.bytes ≡ target kind slots changes start.bytes) fails;
    empty = no_claim result (HasEmptyJournal slots new.bytes) fails;
  }

  -- the last phase
  pub commits : {T E : Type 0} (old new : DiskState) (result : Result T E)
      → Stage (target kind slots changes start.bytes) old × (slice_index old.bytes 4096 ≡ 0) → IsCall old new result
      → (IsObservable new → IsSound new)
      → (IsObservable old → Reaches (OutsideJournal kind slots changes)
      (HasPassed kind Erase slots changes old.bytes) old new result)
      → (IsObservable old → OnOk result (IsDurable new))
      → CommitsTo slots (target kind slots changes start.bytes) start new result
  commits old new result stage call sound reaches is_durable =
      let reached = reaches stage.0.observable in
      let leaves = leaves_erasing old new stage reached.keeps in
      let done = on_ok_map result (HasPassed kind Erase slots changes old.bytes new.bytes)
      (new.bytes ≡ target kind slots changes start.bytes)
      (λ passed. erased slots changes begun.valid kind
      start.bytes begun.long begun.empty old.bytes new.bytes stage.0.stands stage.1 reached.keeps.reads passed.0
      passed.1) reached.done in
      record {
        crash = leaves;
        reads = reads_after start new (RecoversToEither slots start.bytes (target kind slots changes start.bytes))
            (sound (IsObservable-call old new result call stage.0.observable)) leaves;
        durable = is_durable stage.0.observable;
        done = done;
        empty = on_ok_map result (new.bytes ≡ target kind slots changes start.bytes) (HasEmptyJournal slots new.bytes)
            (λ is. subst (HasEmptyJournal slots) (sym is)
            (target_empty slots changes begun.valid kind start.bytes begun.long begun.empty)) done;
      }

-- no change: nothing was called
pub commits_none : {T E : Type 0} (slots : ℕ) (changes : Changes) (disk : DiskState) (value : T) → changes.count ≡ 0
    → length disk.bytes ≡ image_len slots → IsSound disk → IsDurable disk → HasEmptyJournal slots disk.bytes
    → Commits {E = E} slots changes disk disk (Ok value)
commits_none slots changes disk value none long sound durable empty =
    let same : disk.bytes ≡ with_slots slots changes disk.bytes =
    ap (λ (n : ℕ). with_first slots changes n disk.bytes) (sym none) in
    let here : RecoversToEither slots disk.bytes (with_slots slots changes disk.bytes) disk.bytes = record {
      same_length = refl;
      recovers = inl (recovered_empty slots disk.bytes long empty);
    } in
    record {
      crash = LeavesOnly-refl disk (RecoversToEither slots disk.bytes (with_slots slots changes disk.bytes)) sound
          (MayLeaveOnly-durable disk (RecoversToEither slots disk.bytes (with_slots slots changes disk.bytes)) durable
          here);
      reads = here;
      durable = durable;
      done = same;
      empty = empty;
    }

pub if_ok_map : {T E : Type 0} (result : Result T E) (P Q : T → Type 0) → ((value : T) → P value → Q value)
    → IfOk result P → IfOk result Q
if_ok_map (Ok value) P Q leads here = leads value here
if_ok_map (Err error) P Q leads here = tt
