-- The states of the disk between the phases of a wipe.
use Rattle.std.proofs.Common.{◌≡◌, ℕ, ◌+◌, ◌<◌, ◌≤◌, List, [], ◌∷◌, length, slice_index, refl, sym, ap, ◌∙◌, inl, inr}
use Rattle.std.proofs.Common.{arith, Result, Ok, OnOk, IsErr}
use Rattle.std.proofs.lemmas.Bool.{cases_eq}
use Rattle.std.proofs.lemmas.List.{ext_get_or, get_or-replicate, length-replicate}
use Rattle.store_model.specs.Lists.{zeros}
use Rattle.disk_model.specs.DiskState.{DiskState, IsDurable, IsSound}
use Rattle.disk_model.specs.DiskCalls.{LeavesOnly, overwrite}
use Rattle.disk_model.proofs.Crashes.{LeavesOnly-refl, LeavesOnly-weaken, MayLeaveOnly-durable}
use Rattle.gate_journal.specs.Places.{IsApart, SameAt, Keeps, Reaches, IsZeroAt}
use Rattle.gate_journal.specs.Wipes.{IsWiping, Wipes}
use Rattle.gate_journal.proofs.Places.{SameAt-refl, Keeps-durable}
use Rattle.gate_journal.proofs.Entries.{slice_index-overwrite}
use Rattle.gate_journal.proofs.Stages.{no_claim, on_ok_map, phase_leaves}

-- a byte string of zeros
all_zero : (n : ℕ) (image : List ℕ) → length image ≡ n
    → ((place : ℕ) → place < n → slice_index image place ≡ 0) → image ≡ zeros n
all_zero n image long is = ext_get_or 0 image (zeros n) (long ∙ sym (length-replicate {A = ℕ} n 0)) λ i low.
    is i (omega (arith, long)) ∙ sym (get_or-replicate n i 0 0 (omega (arith, long)))

-- while the first byte is written
leaves_unnaming : (old new : DiskState) → IsDurable old → Keeps (IsApart 0 1) old new
    → LeavesOnly old new (IsWiping old.bytes)
leaves_unnaming old new durable keeps =
    LeavesOnly-weaken old new (SameAt (IsApart 0 1) old.bytes) (IsWiping old.bytes) (λ image same. inl same)
    (Keeps-durable (IsApart 0 1) old new durable keeps)

pub wipes_fault : {T E : Type 0} (old new : DiskState) (result : Result T E) → IsErr result
    → Keeps (IsApart 0 1) old new → Wipes old new result
wipes_fault old new result fails keeps = record {
  reads = inl keeps.reads;
  crash = λ durable. leaves_unnaming old new durable keeps;
  durable = no_claim result (IsDurable new) fails;
  done = no_claim result (new.bytes ≡ zeros (length old.bytes)) fails;
}

module _ {T E U F : Type 0} (old mid new : DiskState) (value : U) (result : Result T E) (some : 1 ≤ length old.bytes)
    (first : Reaches {E = F} (IsApart 0 1) (λ image. image ≡ overwrite old.bytes 0 (0 ∷ [])) old mid (Ok value)) where
  first_zero : slice_index mid.bytes 0 ≡ 0
  first_zero = ap (λ (l : List ℕ). slice_index l 0) first.done ∙ slice_index-overwrite old.bytes 0 0 (omega arith)

  -- while all others are
  zeroing : (n : ℕ) (image : List ℕ) → SameAt (IsApart 1 n) mid.bytes image
      → (length image ≡ length old.bytes) × (slice_index image 0 ≡ 0)
  zeroing n image same = (
    same.same_length ∙ first.keeps.reads.same_length,
    same.same 0 (inl (let low : 0 < 1 = omega arith in low))
        ∙ first_zero,
  )

  pub wipes : (n : ℕ) → 1 + n ≡ length old.bytes → IsDurable mid → Reaches (IsApart 1 n) (IsZeroAt 1 n) mid new result
      → OnOk result (IsDurable new) → Wipes old new result
  wipes n whole mid_durable rest durable = record {
    reads = inr (zeroing n new.bytes rest.keeps.reads);
    crash = λ old_durable.
        phase_leaves (IsApart 1 n) (IsWiping old.bytes) old mid new
        (leaves_unnaming old mid old_durable first.keeps) mid_durable
        rest.keeps (λ image same. inr (zeroing n image same));
    durable = durable;
    done = on_ok_map result (IsZeroAt 1 n new.bytes) (new.bytes ≡ zeros (length old.bytes))
        (λ zero_rest. all_zero (length old.bytes)
        new.bytes (zeroing n new.bytes rest.keeps.reads).0 (λ place low. elim (cases_eq place 0) [
          | inl start ↦ ap (slice_index new.bytes) start ∙ (zeroing n new.bytes rest.keeps.reads).1
          | inr later ↦ zero_rest place (omega arith) (omega (arith, whole))
        ]))
        rest.done;
  }

-- a disk of no byte, on which nothing is called
pub wipes_none : {T E : Type 0} (disk : DiskState) (value : T) → IsSound disk → disk.size ≡ 0
    → Wipes {E = E} disk disk (Ok value)
wipes_none disk value sound none =
    let empty : (image : List ℕ) → length image ≡ 0 → image ≡ zeros 0 =
    λ image long. all_zero 0 image long (λ place low. absurd (omega arith)) in
    let here : IsWiping disk.bytes disk.bytes = inl (SameAt-refl (IsApart 0 1) disk.bytes) in
    record {
      reads = here;
      crash = λ durable. LeavesOnly-refl disk (IsWiping disk.bytes) sound
          (MayLeaveOnly-durable disk (IsWiping disk.bytes) durable here);
      durable = λ image left. empty image (sound.image_size image left ∙ none)
          ∙ sym (empty disk.bytes (sound.size ∙ none));
      done = all_zero (length disk.bytes) disk.bytes refl (λ place low. absurd (omega (arith, sound.size, none)));
    }
