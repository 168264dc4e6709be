-- What stays at the places that writes spare.
use Rattle.std.proofs.Common.{◌≡◌, ℕ, ◌+◌, ◌<◌, ◌≤◌, List, length, take, drop, slice_index, refl, sym, ◌∙◌, inl, inr}
use Rattle.std.proofs.Common.{arith, Result, length-take, length-drop, get_or-take, get_or-drop}
use Rattle.std.proofs.lemmas.List.{ext_get_or}
use Rattle.store_model.specs.Images.{bytes_at}
use Rattle.disk_model.specs.DiskState.{DiskState, IsObservable, IsDurable, IsSound}
use Rattle.disk_model.specs.DiskCalls.{SameOutside, LeavesOnly, IsRead, IsWrite, IsSync}
use Rattle.disk_model.proofs.Crashes.{LeavesOnly-refl, LeavesOnly-trans, LeavesOnly-weaken, MayLeaveOnly-end}
use Rattle.gate_journal.specs.Places.{IsApart, SameAt, TornOutside, Keeps}
use Rattle.std.proofs.Common.{subst}

pub SameAt-refl : (places : ℕ → Type 0) (image : List ℕ) → SameAt places image image
SameAt-refl places image = record { same_length = refl; same = λ place here. refl }

pub SameAt-trans : (places : ℕ → Type 0) (a b c : List ℕ) → SameAt places a b → SameAt places b c → SameAt places a c
SameAt-trans places a b c first then = record {
  same_length = then.same_length ∙ first.same_length;
  same = λ place here. then.same place here ∙ first.same place here;
}

-- fewer places
pub SameAt-weaken : (places fewer : ℕ → Type 0) (a b : List ℕ) → ((place : ℕ) → fewer place → places place)
    → SameAt places a b → SameAt fewer a b
SameAt-weaken places fewer a b within same = record {
  same_length = same.same_length;
  same = λ place here. same.same place (within place here);
}

-- places outside the range
pub SameAt-outside : (places : ℕ → Type 0) (at n : ℕ) (a b : List ℕ) → ((place : ℕ) → places place → IsApart at n place)
    → SameOutside at n a b → SameAt places a b
SameAt-outside places at n a b apart same = record {
  same_length = same.same_length;
  same = λ place here. elim (apart place here) [ inl low ↦ same.below place low | inr high ↦ same.above place high ];
}

-- an area of these places holds the same
pub bytes_at-same : (places : ℕ → Type 0) (at n : ℕ) (a b : List ℕ)
    → ((place : ℕ) → at ≤ place → place < at + n → places place) → SameAt places a b → bytes_at b at n ≡ bytes_at a at n
bytes_at-same places at n a b within same =
    let lengths : length (take n (drop at b)) ≡ length (take n (drop at a)) =
    omega (
      arith,
      length-take n (drop at b),
      length-take n
          (drop at a),
      length-drop at b,
      length-drop at a,
      same.same_length,
    ) in
    ext_get_or 0 (take n (drop at b)) (take n (drop at a)) lengths λ i low.
    let few : i < n = omega (arith, length-take n (drop at b)) in
    let there : slice_index b (at + i) ≡ slice_index a (at + i) =
    same.same (at + i) (within (at + i) (omega arith) (omega arith)) in
    get_or-take n (drop at b) i 0 few ∙ get_or-drop at b i 0 ∙ there
    ∙ sym (get_or-take n (drop at a) i 0 few ∙ get_or-drop at a i 0)

pub Keeps-refl : (places : ℕ → Type 0) (disk : DiskState) → IsSound disk → Keeps places disk disk
Keeps-refl places disk sound = record {
  leaves = LeavesOnly-refl disk (TornOutside places disk.crash_images) sound
      (λ image left. (image, left, SameAt-refl places image));
  reads = SameAt-refl places disk.bytes;
}

pub Keeps-trans : (places : ℕ → Type 0) (old mid new : DiskState) → IsSound mid → Keeps places old mid
    → Keeps places mid new → Keeps places old new
Keeps-trans places old mid new sound first then = record {
  leaves =
      LeavesOnly-trans old mid new (TornOutside places old.crash_images) first.leaves
      (LeavesOnly-weaken mid new (TornOutside places mid.crash_images) (TornOutside places old.crash_images)
      (λ image torn.
      let (whole, was, same) = torn in
      let (first_whole, first_was, first_same) =
      MayLeaveOnly-end old mid (TornOutside places old.crash_images) sound first.leaves whole was in
      (first_whole, first_was, SameAt-trans places first_whole whole image first_same same))
      then.leaves);
  reads = SameAt-trans places old.bytes mid.bytes new.bytes first.reads then.reads;
}

-- fewer places
pub Keeps-weaken : (places fewer : ℕ → Type 0) (old new : DiskState) → ((place : ℕ) → fewer place → places place)
    → Keeps places old new → Keeps fewer old new
Keeps-weaken places fewer old new within keeps = record {
  leaves =
      LeavesOnly-weaken old new (TornOutside places old.crash_images) (TornOutside fewer old.crash_images)
      (λ image torn. let (whole, was, same) = torn in (whole, was, SameAt-weaken places fewer whole image within same))
      keeps.leaves;
  reads = SameAt-weaken places fewer old.bytes new.bytes within keeps.reads;
}

-- from a durable disk on, a crash leaves these places as they read
pub Keeps-durable : (places : ℕ → Type 0) (old new : DiskState) → IsDurable old → Keeps places old new
    → LeavesOnly old new (SameAt places old.bytes)
Keeps-durable places old new durable keeps =
    LeavesOnly-weaken old new (TornOutside places old.crash_images) (SameAt places old.bytes)
    (λ image torn.
    let (whole, was, same) = torn in
    subst (λ (l : List ℕ). SameAt places l image) (durable whole was) same)
    keeps.leaves

module _ {T E : Type 0} (places : ℕ → Type 0) (old new : DiskState) (result : Result T E)
    (observable : IsObservable old) where
  pub Keeps-read : (at : ℕ) (buffer : List ℕ) → IsRead old new at buffer result → Keeps places old new
  Keeps-read at buffer read =
      let bytes = read.observed observable in
      record {
        leaves = record {
          time = bytes.time;
          each = λ image left. (image, bytes.during image left, SameAt-refl places image);
        };
        reads = subst (SameAt places old.bytes) (sym bytes.bytes) (SameAt-refl places old.bytes);
      }

  pub Keeps-sync : IsSync old new result → Keeps places old new
  Keeps-sync sync =
      let bytes = sync.observed observable in
      record {
        leaves = record {
          time = bytes.time;
          each = λ image left. (image, bytes.during image left, SameAt-refl places image);
        };
        reads = subst (SameAt places old.bytes) (sym bytes.bytes) (SameAt-refl places old.bytes);
      }

  -- a write beside these places
  pub Keeps-write : (at : ℕ) (bytes : List ℕ) → ((place : ℕ) → places place → IsApart at (length bytes) place)
      → IsWrite old new at bytes result → Keeps places old new
  Keeps-write at bytes apart write =
      let effect = write.observed observable in
      record {
        leaves = record {
          time = effect.time;
          each = λ image left.
              let (whole, was, same) = effect.during image left in
              (whole, was, SameAt-outside places at (length bytes) whole image apart same);
        };
        reads = SameAt-outside places at (length bytes) old.bytes new.bytes apart effect.outside;
      }
