-- Lemmas on starts that are kept.
use Rattle.std.proofs.Common.{◌≡◌, ◌⊎◌, ℕ, zero, suc, Bool, true, false, [], ◌∷◌, ◌++◌, if◌then◌else◌, Some, slice_get}
use Rattle.std.proofs.Common.{sym, ap, subst, ◌∙◌, inl, inr}
use Rattle.std.proofs.lemmas.Option.{same_Some, none-some}
use Rattle.store_model.specs.Labels.{Label}
use Rattle.store_model.specs.Draws.{Draw}
use Rattle.table_memory.specs.Starts.{Starts, IsKeptStart, AreStarts}

pub kept_is : (d : Draw) (kept : Starts) (l : Label) (start : ℕ) → AreStarts d kept
    → IsKeptStart kept l start → start ≡ d.start l
kept_is d kept l start are is = are.drawn is.place (l, start) is.there

pub starts_none : (d : Draw) (none : Starts) → none ≡ [] → AreStarts d none
starts_none d none empty = record {
  drawn = λ i start there. absurd (none-some start (ap (λ (kept : Starts). slice_get kept i) (sym empty) ∙ there));
}

-- one more
pushed : (kept : Starts) (one : Label × ℕ) (i : ℕ) (start : Label × ℕ) → slice_get (kept ++ one ∷ []) i ≡ Some start
    → (slice_get kept i ≡ Some start) ⊎ (one ≡ start)
pushed [] one zero start there = inr (same_Some one start there)
pushed [] one (suc i) start there = inl there
pushed (first ∷ kept) one zero start there = inl there
pushed (first ∷ kept) one (suc i) start there = pushed kept one i start there

starts_more : (d : Draw) (kept : Starts) (l : Label) (start : ℕ) → AreStarts d kept → start ≡ d.start l
    → AreStarts d (kept ++ (l, start) ∷ [])
starts_more d kept l start are is = record {
  drawn = λ i other there. elim (pushed kept (l, start) i other there) [
    | inl before ↦ are.drawn i other before
    | inr here ↦ subst (λ (e : Label × ℕ). e.1 ≡ d.start e.0) here is
  ];
}

-- one more where there was memory for it, behind those that were kept or behind none
pub starts_kept : (d : Draw) (old mid new : Starts) (l : Label) (start : ℕ) (is_kept : Bool) → AreStarts d old
    → (mid ≡ old) ⊎ (mid ≡ []) → start ≡ d.start l
    → new ≡ (if is_kept then mid ++ (l, start) ∷ [] else mid) → AreStarts d new
starts_kept d old mid new l start is_kept are begins is pushes = subst (AreStarts d) (sym pushes) (by_memory is_kept)
  where
    here : AreStarts d mid
    here = elim begins [ inl same ↦ subst (AreStarts d) (sym same) are | inr empty ↦ starts_none d mid empty ]

    by_memory : (b : Bool) → AreStarts d (if b then mid ++ (l, start) ∷ [] else mid)
    by_memory true = starts_more d mid l start here is
    by_memory false = here
