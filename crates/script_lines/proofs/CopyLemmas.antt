-- Loops over two lists that compare them, and over one that copy it.
use Rattle.std.proofs.Common.{◌≡◌, ℕ, ◌+◌, ◌<◌, Bool, true, false, not, ◌&&◌, List, [], ◌∷◌, ◌++◌, length, take, drop}
use Rattle.std.proofs.Common.{sym, ap, ◌∙◌, Some}
use Rattle.std.specs.List.{slice_get}
use Rattle.std.specs.Cmp.Lexicographic.{pointwise}
use Rattle.std.proofs.lemmas.List.{take_more, drop_more}
use Rattle.std.proofs.lemmas.Option.{get_or_from_slice_get}
use Rattle.script_lines.proofs.LineLemmas.{not-yes, not-no}

module _ {X : Type 0} where
  -- one more is copied
  pub take_got : (xs copy next : List X) (i : ℕ) (x : X) → i < length xs → slice_get xs i ≡ Some x → copy ≡ take i xs
      → next ≡ copy ++ x ∷ [] → next ≡ take (i + 1) xs
  take_got xs copy next i x fits read copied more =
      more ∙ ap (λ (front : List X). front ++ x ∷ []) copied
      ∙ sym (take_more xs i x fits ∙ ap (λ (y : X). take i xs ++ y ∷ []) (get_or_from_slice_get xs i x x read))

  -- what is left of a list from one that it has on
  drop_got : (xs : List X) (i : ℕ) (x : X) → i < length xs → slice_get xs i ≡ Some x → drop i xs ≡ x ∷ drop (i + 1) xs
  drop_got xs i x fits read = drop_more xs i x fits
      ∙ ap (λ (y : X). y ∷ drop (i + 1) xs) (get_or_from_slice_get xs i x x read)

  module _ (R : X → X → Bool) (xs ys : List X) (i : ℕ) (x y : X) (fits : i < length xs) (other_fits : i < length ys)
      (read : slice_get xs i ≡ Some x) (other_read : slice_get ys i ≡ Some y) where
    -- from two elements on two lists are the same where these are, and the lists behind them
    pointwise_got : pointwise R (drop i xs) (drop i ys) ≡ (R x y && pointwise R (drop (i + 1) xs) (drop (i + 1) ys))
    pointwise_got =
        ap (λ (zs : List X). pointwise R zs (drop i ys)) (drop_got xs i x fits read)
        ∙ ap (pointwise R (x ∷ drop (i + 1) xs)) (drop_got ys i y other_fits other_read)

    -- two elements that differ
    pub pointwise_stops : true ≡ not (R x y) → pointwise R (drop i xs) (drop i ys) ≡ pointwise R xs ys
        → false ≡ pointwise R xs ys
    pointwise_stops differ so_far =
        sym (ap (λ b. b && pointwise R (drop (i + 1) xs) (drop (i + 1) ys)) (not-yes (R x y) (sym differ)))
        ∙ sym pointwise_got ∙ so_far

    -- two that are the same
    pub pointwise_goes : false ≡ not (R x y) → pointwise R (drop i xs) (drop i ys) ≡ pointwise R xs ys
        → pointwise R (drop (i + 1) xs) (drop (i + 1) ys) ≡ pointwise R xs ys
    pointwise_goes same so_far =
        sym (ap (λ b. b && pointwise R (drop (i + 1) xs) (drop (i + 1) ys)) (not-no (R x y) (sym same)))
        ∙ sym pointwise_got ∙ so_far
