-- The bytes of a seed.
use Rattle.std.proofs.Common.{◌≡◌, ℕ, List, length, true, false, cond, None}
use Rattle.std.proofs.Common.{eqb, refl, sym, ap, ◌∙◌, ⊎_elim, Result, Ok, Err}
use Rattle.std.specs.Result.{result_ok}
use Rattle.std.proofs.lemmas.Bool.{cases_Bool, false≢true, eqb-true, eq-eqb}
use Rattle.hex.specs.Hex.{decode_of, decode_sized}
use Rattle.hex.specs.declared.error.FromHexError.{FromHexError}
use Rattle.hex.proofs.HexLemmas.{decode_sized-twice, decode_sized-ok}
use Rattle.store_model.specs.Grammar.{ok_value}
use Rattle.store_model.specs.Words.{seed_of_word}

seed_right : (w : List ℕ) → eqb (length w) 64 ≡ true → seed_of_word w ≡ ok_value (decode_of w)
unfolding seed_of_word
seed_right w h = ap (λ b. cond b (ok_value (decode_of w)) None) h

seed_wrong : (w : List ℕ) → eqb (length w) 64 ≡ false → seed_of_word w ≡ None
unfolding seed_of_word
seed_wrong w h = ap (λ b. cond b (ok_value (decode_of w)) None) h

same_value : (x : Result (List ℕ) FromHexError) → result_ok x ≡ ok_value x
same_value (Ok v) = refl
same_value (Err x) = refl

no_value : (x : Result (List ℕ) FromHexError) → ((bytes : List ℕ) → x ≡ Ok bytes → ⊥) → result_ok x ≡ None
no_value (Ok v) none = absurd (none v refl)
no_value (Err x) none = refl

-- a seed of 64 digits, decoded
pub seed_decoded : (w : List ℕ) (r : Result (List ℕ) FromHexError) → r ≡ decode_sized w 32
    → result_ok r ≡ seed_of_word w
seed_decoded w r e =
    ap result_ok e ∙ ⊎_elim
    (λ h. ap result_ok (decode_sized-twice w 32 (eqb-true _ _ h)) ∙ same_value (decode_of w) ∙ sym (seed_right w h))
    (λ h. no_value (decode_sized w 32) (λ bytes q. false≢true (sym h ∙ eq-eqb _ _ (decode_sized-ok w 32 bytes q)))
    ∙ sym (seed_wrong w h))
    (cases_Bool (eqb (length w) 64))
