-- A buffer is filled from a file, read after read.
use Rattle.std.proofs.Common.{◌≡◌, ℕ, ◌+◌, ◌-◌, ◌<◌, ◌≤◌, Bool, false, ◌&&◌, IsTrue, nat_lt, List, [], ◌∷◌, ◌++◌}
use Rattle.std.proofs.Common.{length, take, drop, Ok, refl, sym, ap, subst, ◌∙◌, arith}
use Rattle.std.proofs.lemmas.Bool.{le-ltb}
use Rattle.std.proofs.lemmas.List.{append-nil, append_assoc, length-take, length-drop}
use Rattle.script_lines.proofs.Held.{held_filled, length-put_mid}
use borrow.Rule.Slice.PartMut.{put_mid}
use Rattle.store_model.specs.Paths.{Path}
use Rattle.host_folders.specs.FolderState.{FolderState, IsObservable, ReadsFile, IsFileRead, tells_end}

-- these bytes came of the file since an earlier moment
pub record HasCome (old now : FolderState) (bytes : List ℕ) : Type 0 where
  pub listed : now.listed ≡ old.listed
  pub targets : now.targets ≡ old.targets
  pub read : (before : List (Path × List ℕ × Bool)) (path : Path) (first : List ℕ) (was_ended : Bool)
      → old.read ≡ before ++ (path, first, was_ended) ∷ []
      → (is_ended : Bool) × (now.read ≡ before ++ (path, first ++ bytes, is_ended) ∷ [])
      × (0 < length bytes → is_ended ≡ false)

-- so many bytes of the buffer came, in reads that each gave some
pub record IsPartFilled (old now : FolderState) (buffer : List ℕ) (count : ℕ) : Type 0 where
  pub observable : now.is_observable ≡ old.is_observable
  pub faults : now.faults ≡ old.faults
  pub within : count ≤ length buffer
  pub read : IsObservable old → HasCome old now (take count buffer)

pub fill_begins : (old : FolderState) (buffer : List ℕ) → IsPartFilled old old buffer 0
fill_begins old buffer = record {
  observable = refl;
  faults = refl;
  within = omega arith;
  read = λ observable. record {
    listed = refl;
    targets = refl;
    read = λ before path first was_ended was. (
      was_ended,
      was ∙ ap (λ (bytes : List ℕ). before ++ (path, bytes, was_ended) ∷ [])
          (sym (append-nil first)),
      λ (some : 0 < 0). absurd (omega (arith, some)),
    );
  };
}

-- what a read tells of the end
some_tells : (count room : ℕ) → (count ≡ 0 → ⊥) → tells_end count room ≡ false
some_tells count room some = ap (λ b. b && nat_lt 0 room) (le-ltb count 1 (omega (arith, some)))

-- a read that gave some bytes
comes_more : (old now new : FolderState) (bytes more : List ℕ) (is_ended : Bool) → is_ended ≡ false
    → HasCome old now bytes → ReadsFile now new more is_ended → HasCome old new (bytes ++ more)
comes_more old now new bytes more is_ended going has reads = record {
  listed = reads.listed ∙ has.listed;
  targets = reads.targets ∙ has.targets;
  read = λ before path first was_ended was.
      let so_far = has.read before path first was_ended was in (
        is_ended,
        reads.read before path (first ++ bytes) so_far.0 so_far.1
            ∙ ap (λ (all : List ℕ). before ++ (path, all, is_ended) ∷ []) (append_assoc first bytes more),
        λ some. going,
      );
}

pub fill_goes_on : (old now new : FolderState) (buffer part : List ℕ) (count more : ℕ)
    → IsPartFilled old now buffer count → count < length buffer → IsFileRead now new part (Ok more)
    → length part ≡ length (take (length buffer - count) (drop count buffer)) → (more ≡ 0 → ⊥)
    → IsPartFilled old new (put_mid count (length buffer - count) buffer part) (count + more)
fill_goes_on old now new buffer part count more filled room reads part_len some =
    let left = length-drop count buffer in
    let part_is : length part ≡ length buffer - count =
    part_len ∙ length-take (length buffer - count) (drop count buffer) ∙ omega (arith, left) in
    let within : more ≤ length part = reads.within in
    let fits : count ≤ length buffer = filled.within in
    let len = length-put_mid buffer part count (length buffer - count) (omega (arith, fits)) part_is in
    record {
      observable = reads.observable ∙ filled.observable;
      faults = reads.faults ∙ filled.faults;
      within = omega (arith, len, part_is, within, fits);
      read = λ observable.
          subst (λ (bytes : List ℕ). HasCome old new bytes)
          (sym (held_filled (take count buffer) buffer part _ count (length buffer - count) more
          (count + more) refl refl fits refl within))
          (comes_more old now new (take count buffer) (take more part) (tells_end more (length part))
          (some_tells more (length part) some) (filled.read observable)
          (reads.read (subst (λ b. IsTrue b) (sym filled.observable) observable)));
    }
