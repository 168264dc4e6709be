-- What a crash during several calls may leave. Each lemma holds for every disk that tells its bytes.
-- A function of a few calls proves LeavesOnly by one step a call, and LeavesOnly-trans puts the steps together.
use Rattle.std.proofs.Common.{ℕ, ◌+◌, ◌≤◌, List, length, subst, sym, ◌∙◌, inl, inr, ⊎_elim, arith, Result, Ok}
use Rattle.disk_model.specs.DiskState.{DiskState, IsObservable, IsDurable, IsSound, MayLeaveOnly}
use Rattle.disk_model.specs.DiskCalls.{SameOutside, Torn, Elapses, LeavesOnly, IsCall, IsRead, IsWrite, IsSync}
use Rattle.disk_model.proofs.Images.{SameOutside-within}

pub Elapses-refl : (disk : DiskState) → IsSound disk → Elapses disk disk
Elapses-refl disk sound = record {
  later = omega arith;
  since = λ t image le. (
    λ left. inl left,
    ⊎_elim (λ left. left)
        (λ now. sound.includes_now t image le (sound.only_now image now)),
  );
}

pub Elapses-trans : (old mid new : DiskState) → Elapses old mid → Elapses mid new → Elapses old new
Elapses-trans old mid new first then = record {
  later = omega (arith, first.later, then.later);
  since = λ t image le.
      let le_mid : t ≤ mid.clock = omega (arith, first.later) in
      let all = then.since t image le_mid in
      let was = first.since t image le in
      let here = then.since old.clock image first.later in (
        λ left. ⊎_elim
            (λ (before : mid.crash_images_since t image).
            ⊎_elim (λ (past : old.crash_images_since t image). inl past)
            (λ (since : mid.crash_images_since old.clock image). inr (here.1 (inl since))) (was.0 before))
            (λ (after : new.crash_images_since mid.clock image). inr (here.1 (inr after)))
            (all.0 left),
        ⊎_elim
            (λ (past : old.crash_images_since t image). all.1 (inl (was.1 (inl past))))
            (λ (left : new.crash_images_since old.clock image).
            ⊎_elim (λ (before : mid.crash_images_since old.clock image). all.1 (inl (was.1 (inr before))))
            (λ (after : new.crash_images_since mid.clock image). all.1 (inr after)) (here.0 left)),
      );
}

-- before the first call
pub LeavesOnly-refl : (disk : DiskState) (P : List ℕ → Type 0) → IsSound disk → MayLeaveOnly disk P
    → LeavesOnly disk disk P
LeavesOnly-refl disk P sound here = record {
  time = Elapses-refl disk sound;
  each = λ image left. here image (sound.only_now image left);
}

-- one run of calls after another
pub LeavesOnly-trans : (old mid new : DiskState) (P : List ℕ → Type 0) → LeavesOnly old mid P
    → LeavesOnly mid new P → LeavesOnly old new P
LeavesOnly-trans old mid new P first then = record {
  time = Elapses-trans old mid new first.time then.time;
  each = λ image left. ⊎_elim (first.each image) (then.each image)
      ((then.time.since old.clock image first.time.later).0 left);
}

pub LeavesOnly-weaken : (old new : DiskState) (P Q : List ℕ → Type 0) → ((image : List ℕ) → P image → Q image)
    → LeavesOnly old new P → LeavesOnly old new Q
LeavesOnly-weaken old new P Q weaker only = record {
  time = only.time;
  each = λ image left. weaker image (only.each image left);
}

-- from the clock to the present: the end of the run is one of its moments, and so is its beginning
pub MayLeaveOnly-end : (old new : DiskState) (P : List ℕ → Type 0) → IsSound new
    → LeavesOnly old new P → MayLeaveOnly new P
MayLeaveOnly-end old new P sound only image now =
    only.each image (sound.includes_now old.clock image only.time.later now)

pub MayLeaveOnly-start : (old new : DiskState) (P : List ℕ → Type 0) → IsSound old
    → LeavesOnly old new P → MayLeaveOnly old P
MayLeaveOnly-start old new P sound only image then =
    only.each image
    ((only.time.since old.clock image (omega arith)).1
    (inl (sound.includes_now old.clock image (omega arith) then)))

pub IsObservable-call : {T E : Type 0} (old new : DiskState) (result : Result T E) → IsCall old new result
    → IsObservable old → IsObservable new
IsObservable-call old new result call observable = call.observable ∙ observable

-- a durable disk leaves the bytes that it reads
pub MayLeaveOnly-durable : (disk : DiskState) (P : List ℕ → Type 0) → IsDurable disk
    → P disk.bytes → MayLeaveOnly disk P
MayLeaveOnly-durable disk P durable here image left = subst P (sym (durable image left)) here

-- what a sync that succeeded says
pub IsDurable-sync : {T E : Type 0} (old new : DiskState) (value : T) → IsObservable old
    → IsSync {T = T} {E = E} old new (Ok value) → IsDurable new
IsDurable-sync old new value observable sync = (sync.observed observable).durable

-- whether an image has P does not rest on its bytes in the range
abbrev pub IgnoresRange : ℕ → ℕ → (List ℕ → Type 0) → Type 0
IgnoresRange at n P = (image other : List ℕ) → SameOutside at n image other → P image → P other

module _ {T E : Type 0} (old new : DiskState) (result : Result T E) (P : List ℕ → Type 0)
    (observable : IsObservable old) where
  -- a read, failed or not
  pub LeavesOnly-read : (at : ℕ) (buffer : List ℕ) → IsRead old new at buffer result
      → MayLeaveOnly old P → LeavesOnly old new P
  LeavesOnly-read at buffer read here =
      let bytes = read.observed observable in
      record { time = bytes.time; each = λ image left. here image (bytes.during image left) }

  -- a sync, failed or not
  pub LeavesOnly-sync : IsSync old new result → MayLeaveOnly old P → LeavesOnly old new P
  LeavesOnly-sync sync here =
      let bytes = sync.observed observable in
      record { time = bytes.time; each = λ image left. here image (bytes.during image left) }

  -- a write, failed or not, where what a crash at its beginning may leave has P, whatever stands in the range
  pub LeavesOnly-write : (at : ℕ) (bytes : List ℕ) → IsWrite old new at bytes result
      → ((image : List ℕ) → Torn at (length bytes) old.crash_images image → P image) → LeavesOnly old new P
  LeavesOnly-write at bytes write torn =
      let effect = write.observed observable in
      record { time = effect.time; each = λ image left. torn image (effect.during image left) }

  -- a write to a durable disk
  pub LeavesOnly-write_durable : (at : ℕ) (bytes : List ℕ) → IsWrite old new at bytes result → IsDurable old
      → ((image : List ℕ) → SameOutside at (length bytes) old.bytes image → P image) → LeavesOnly old new P
  LeavesOnly-write_durable at bytes write durable torn =
      LeavesOnly-write at bytes write λ image left.
      let (whole, was, same) = left in
      torn image (subst (λ (l : List ℕ). SameOutside at (length bytes) l image) (durable whole was) same)

  -- a write within a range on which P does not rest
  pub LeavesOnly-write_within : (at : ℕ) (bytes : List ℕ) (from n : ℕ) → from ≤ at → at + length bytes ≤ from + n
      → IgnoresRange from n P → IsWrite old new at bytes result → MayLeaveOnly old P → LeavesOnly old new P
  LeavesOnly-write_within at bytes from n low high ignores write here =
      LeavesOnly-write at bytes write λ image left.
      let (whole, was, same) = left in
      ignores whole image (SameOutside-within at (length bytes) from n whole image low high same) (here whole was)

-- A call goes on from LeavesOnly to LeavesOnly.
module _ {T E : Type 0} (start old new : DiskState) (result : Result T E) (P : List ℕ → Type 0)
    (observable : IsObservable old) (sound : IsSound old) (so_far : LeavesOnly start old P) where
  pub goes_on-read : (at : ℕ) (buffer : List ℕ) → IsRead old new at buffer result → LeavesOnly start new P
  goes_on-read at buffer read =
      LeavesOnly-trans start old new P so_far
      (LeavesOnly-read old new result P observable at buffer read (MayLeaveOnly-end start old P sound so_far))

  pub goes_on-sync : IsSync old new result → LeavesOnly start new P
  goes_on-sync sync = LeavesOnly-trans start old new P so_far
      (LeavesOnly-sync old new result P observable sync (MayLeaveOnly-end start old P sound so_far))

  pub goes_on-write : (at : ℕ) (bytes : List ℕ) → IsWrite old new at bytes result
      → ((image : List ℕ) → Torn at (length bytes) old.crash_images image → P image) → LeavesOnly start new P
  goes_on-write at bytes write torn =
      LeavesOnly-trans start old new P so_far (LeavesOnly-write old new result P observable at bytes write torn)

  pub goes_on-write_durable : (at : ℕ) (bytes : List ℕ) → IsWrite old new at bytes result → IsDurable old
      → ((image : List ℕ) → SameOutside at (length bytes) old.bytes image → P image) → LeavesOnly start new P
  goes_on-write_durable at bytes write durable torn =
      LeavesOnly-trans start old new P so_far
      (LeavesOnly-write_durable old new result P observable at bytes write durable torn)

  pub goes_on-write_within : (at : ℕ) (bytes : List ℕ) (from n : ℕ) → from ≤ at → at + length bytes ≤ from + n
      → IgnoresRange from n P → IsWrite old new at bytes result → LeavesOnly start new P
  goes_on-write_within at bytes from n low high ignores write =
      LeavesOnly-trans start old new P so_far
      (LeavesOnly-write_within old new result P observable at bytes from n low high ignores write
      (MayLeaveOnly-end start old P sound so_far))
