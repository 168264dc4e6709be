-- Where the first separator stands.
use Rattle.std.proofs.Common.{◌≡◌, ℕ, ◌+◌, ◌==◌, List, [], ◌∷◌, length, take, drop, Some, None, Bool, not}
use Rattle.std.proofs.Common.{true, false, refl, sym, ap, ◌∙◌, arith}
use Rattle.std.specs.List.{slice_split, position_or_len}
use Rattle.std.proofs.lemmas.List.Sums.{position_or_len_is, prefix_len_passes}
use Rattle.std.proofs.lemmas.List.Splits.{slice_split_first, slice_split_none}
use Rattle.memchr.specs.Find.{IsFirstByte, is_byte}

not_true : (b : Bool) → ¬ (b ≡ true) → b ≡ false
not_true true never = absurd (never refl)
not_true false never = refl

not_yes : (b : Bool) → not b ≡ true → b ≡ false
not_yes true e = sym e
not_yes false e = refl

-- cut at the first place
pub first_cut : (c : ℕ) (text : List ℕ) (place : ℕ) → IsFirstByte (is_byte c) text (Some place)
    → slice_split (λ b. b == c) text ≡ take place text ∷ slice_split (λ b. b == c) (drop (place + 1) text)
first_cut c text place first =
    let there : position_or_len (λ b. b == c) text ≡ place =
    position_or_len_is (λ b. b == c) text place 0 (omega (arith, first.0.high))
    (λ k below. not_true _ (first.0.before k (omega arith) below)) (λ below. first.1) in
    slice_split_first (λ b. b == c) text 0 (omega (arith, there, first.0.high))
    ∙ ap (λ (n : ℕ). take n text ∷ slice_split (λ b. b == c) (drop (n + 1) text)) there

-- or not at all
pub none_cut : (c : ℕ) (text : List ℕ) → IsFirstByte (is_byte c) text None → slice_split (λ b. b == c) text ≡ text ∷ []
none_cut c text nowhere =
    let at_end : position_or_len (λ b. b == c) text ≡ length text =
    position_or_len_is (λ b. b == c) text (length text) 0 (omega arith)
    (λ k below. not_true _ (nowhere k (omega arith) below)) (λ below. absurd (omega arith)) in
    slice_split_none (λ b. b == c) text
    (λ k d below. not_yes _ (prefix_len_passes (λ b. not (b == c)) text k d (omega (arith, at_end, below))))
