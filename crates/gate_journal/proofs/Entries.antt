-- What single writes into the areas of an image do.
use Rattle.std.proofs.Common.{◌≡◌, ℕ, ◌+◌, ◌<◌, ◌≤◌, List, [], ◌∷◌, ◌++◌, length, take, drop, slice_index, sym, ap, ◌∙◌}
use Rattle.std.proofs.Common.{subst, inr, arith, Result, Ok, Err, OnOk, length-append, length-take}
use Rattle.std.proofs.lemmas.List.{get_or_append_left, get_or_at}
use Rattle.store_model.specs.Parameters.{mark_at, shadow_at, image_len}
use Rattle.store_model.specs.Images.{bytes_at}
use Rattle.disk_model.specs.DiskState.{DiskState, IsObservable, IsSound}
use Rattle.disk_model.specs.DiskCalls.{SameOutside, overwrite, IsWrite}
use Rattle.disk_model.proofs.Images.{take-drop-overwrite, take-drop-outside}
use Rattle.gate_journal.specs.Places.{IsApart, Keeps, Reaches}
use Rattle.gate_journal.specs.Changes.{OutsideEntry, HasEntry}
use Rattle.gate_journal.proofs.Areas.{areas, table_end}
use Rattle.gate_journal.proofs.Places.{Keeps-trans, Keeps-write}

-- the byte that was written
pub slice_index-overwrite : (old : List ℕ) (at byte : ℕ) → at + 1 ≤ length old
    → slice_index (overwrite old at (byte ∷ [])) at ≡ byte
slice_index-overwrite old at byte within =
    let front : length (take at old) ≡ at = omega (arith, length-take at old) in
    let here : at < length (take at old ++ byte ∷ []) = omega (arith, length-append (take at old) (byte ∷ []), front) in
    get_or_append_left (take at old ++ byte ∷ []) (drop (at + 1) old) 0 at here
    ∙ get_or_at (take at old) byte [] 0 at front

-- the shadow block of a slot, and then its mark
module _ (slots slot mark : ℕ) (shadow : List ℕ) (below : slot < slots) (whole : length shadow ≡ 4096)
    (old mid : DiskState) (observable : IsObservable old) (sound : IsSound old)
    (size : old.size ≡ image_len slots) where
  shadow_keeps : {T E : Type 0} (result : Result T E) (at : ℕ) → at ≡ shadow_at slots slot
      → IsWrite old mid at shadow result → Keeps (OutsideEntry slots slot) old mid
  shadow_keeps result at there write =
      Keeps-write (OutsideEntry slots slot) old mid result observable at shadow
      (λ place outside. subst (λ (n : ℕ). IsApart at n place) (sym whole)
      (subst (λ (from : ℕ). IsApart from 4096 place) (sym there) outside.shadow)) write

  pub entry_failed : {T E U : Type 0} (error : E) (at : ℕ) → at ≡ shadow_at slots slot
      → IsWrite {T = U} old mid at shadow (Err error)
      → Reaches {T = T} {E = E} (OutsideEntry slots slot) (HasEntry slots slot mark shadow) old mid (Err error)
  entry_failed error at there write = record { keeps = shadow_keeps (Err error) at there write; done = tt }

  entry_written : (at from : ℕ) → at ≡ shadow_at slots slot → from ≡ mark_at slot → (last : List ℕ)
      → mid.bytes ≡ overwrite old.bytes at shadow → last ≡ overwrite mid.bytes from (mark ∷ [])
      → SameOutside from 1 mid.bytes last → length mid.bytes ≡ length old.bytes → HasEntry slots slot mark shadow last
  entry_written at from there from_is last first then outside lengths =
      let a = areas slots slot below in
      let end = table_end slots in
      let long : length old.bytes ≡ image_len slots = sound.size ∙ size in
      record {
        mark_is =
            ap (slice_index last) (sym from_is) ∙ ap (λ (l : List ℕ). slice_index l from) then
            ∙ slice_index-overwrite mid.bytes from mark (omega (arith, a.mark_end, a.shadow_is, a.shadow_end));
        shadow_is =
            ap (λ (n : ℕ). bytes_at last n 4096) (sym there)
            ∙ take-drop-outside from 1 at 4096 mid.bytes last (inr (omega (arith, a.mark_end, a.shadow_is))) outside
            ∙ ap (λ (l : List ℕ). bytes_at l at 4096) first
            ∙ subst (λ (n : ℕ). take n (drop at (overwrite old.bytes at shadow)) ≡ shadow) whole
            (take-drop-overwrite old.bytes at shadow (omega (arith, a.shadow_end)));
      }

  pub entry_reaches : {T E U F : Type 0} (new : DiskState) (value : U) (result : Result T E) (at from : ℕ)
      → at ≡ shadow_at slots slot → from ≡ mark_at slot → IsObservable mid → IsSound mid
      → IsWrite {E = F} old mid at shadow (Ok value) → IsWrite mid new from (mark ∷ []) result
      → Reaches (OutsideEntry slots slot) (HasEntry slots slot mark shadow) old new result
  entry_reaches new value result at from there from_is observable_mid sound_mid first then = record {
    keeps =
        Keeps-trans (OutsideEntry slots slot) old mid new sound_mid (shadow_keeps (Ok value) at there first)
        (Keeps-write (OutsideEntry slots slot) mid new result observable_mid from (mark ∷ [])
        (λ place outside. subst (λ (start : ℕ). IsApart start 1 place) (sym from_is) outside.mark) then);
    done = elim result as (λ (r : Result _ _). IsWrite mid new from (mark ∷ []) r
        → OnOk r (HasEntry slots slot mark shadow new.bytes)) [
          | Ok answer ↦ λ written.
              entry_written at from there from_is new.bytes (first.observed observable).written
              (written.observed observable_mid).written (written.observed observable_mid).outside
              (first.observed observable).outside.same_length
          | Err error ↦ λ written. tt
        ] then;
  }
