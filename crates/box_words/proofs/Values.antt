-- What hexadecimal digits give an attribute.
use Rattle.std.proofs.Common.{◌≡◌, ◌∙◌, ◌<◌, ◌≤◌, ◌*◌, ◌/◌, ◌%◌, ℕ, List, length, Bool, true, false, cond, eqb}
use Rattle.std.proofs.Common.{Option, Some, None, Result, Ok, Err, refl, sym, ap, subst, arith, ⊎_elim}
use Rattle.std.proofs.lemmas.Bool.{cases_Bool, eqb-true, eq-eqb, false≢true, le-leb, lt-leb}
use Rattle.std.specs.Option.{option_and_then}
use Rattle.std.specs.Result.{MatchResult, is_ok}
use Rattle.hex.specs.Hex.{decode_of, decode_sized}
use Rattle.hex.specs.declared.error.FromHexError.{FromHexError}
use Rattle.hex.proofs.HexLemmas.{decode_of-odd, decode_of-ok, decode_sized-odd, decode_sized-twice}
use Rattle.store_model.specs.Grammar.{ok_value}
use Rattle.box_words.specs.Attributes.{fitting, value_said}

-- decoding into room for half as many bytes as there are digits is decoding
pub sized_half : (digits : List ℕ) → decode_sized digits (length digits / 2) ≡ decode_of digits
sized_half digits =
    ⊎_elim
    (λ h. let odd : length digits % 2 ≡ 1 = eqb-true _ _ h in
    decode_sized-odd digits (length digits / 2) odd ∙ sym (decode_of-odd digits odd))
    (λ h. let even : length digits % 2 ≡ 1 → ⊥ = λ e. false≢true (sym h ∙ eq-eqb _ _ e) in
    decode_sized-twice digits (length digits / 2) (omega arith))
    (cases_Bool (eqb (length digits % 2) 1))

pub fits : (bytes : List ℕ) → length bytes ≤ 255 → fitting bytes ≡ Some bytes
fits bytes few = ap (λ b. cond b (Some bytes) None) (le-leb (length bytes) 255 few)

pub is_too_long : (bytes : List ℕ) → 255 < length bytes → fitting bytes ≡ None
is_too_long bytes many = ap (λ b. cond b (Some bytes) None) (lt-leb (length bytes) 255 many)

-- what decoding into that room answers
by_match : (x : Result (List ℕ) FromHexError) (new : List ℕ) (r : Result (Unit {0}) FromHexError)
    → MatchResult x (λ bytes. (r ≡ Ok tt) × (new ≡ bytes)) (λ e. r ≡ Err e)
    → cond (is_ok r) (Some new) None ≡ ok_value x
by_match (Ok bytes) new r (e, f) = ap (λ s. cond (is_ok s) (Some new) None) e ∙ ap Some f
by_match (Err x) new r e = ap (λ s. cond (is_ok s) (Some new) None) e

pub decoded_by : (digits new : List ℕ) (n : ℕ) (r : Result (Unit {0}) FromHexError) → n ≡ length digits / 2
    → MatchResult (decode_sized digits n) (λ bytes. (r ≡ Ok tt) × (new ≡ bytes)) (λ e. r ≡ Err e)
    → cond (is_ok r) (Some new) None ≡ ok_value (decode_of digits)
decoded_by digits new n r half match =
    by_match (decode_of digits) new r
    (subst (λ x. MatchResult x (λ bytes. (r ≡ Ok tt) × (new ≡ bytes)) (λ e. r ≡ Err e))
    (ap (decode_sized digits) half ∙ sized_half digits) match)

-- digits of too many bytes
many_of : (digits : List ℕ) (decoded : Result (List ℕ) FromHexError) → decode_of digits ≡ decoded
    → 255 < length digits / 2 → option_and_then fitting (ok_value decoded) ≡ None
many_of digits (Ok bytes) e many =
    let twice : length digits ≡ 2 * length bytes = (decode_of-ok digits bytes e).2 in
    is_too_long bytes (omega arith)
many_of digits (Err fault) e many = refl

pub too_many : (digits : List ℕ) → 255 < length digits / 2 → value_said true digits ≡ None
unfolding value_said
too_many digits many = many_of digits (decode_of digits) refl many

-- and those of fewer
few_of : (digits bytes : List ℕ) (decoded : Result (List ℕ) FromHexError) → decode_of digits ≡ decoded
    → ok_value decoded ≡ Some bytes → length digits / 2 ≤ 255 → option_and_then fitting (ok_value decoded) ≡ Some bytes
few_of digits bytes (Ok found) q e few =
    let twice : length digits ≡ 2 * length found = (decode_of-ok digits found q).2 in
    fits found (omega arith) ∙ e
few_of digits bytes (Err fault) q e few = absurd cc

pub said_by : (digits : List ℕ) (bytes : List ℕ) → ok_value (decode_of digits) ≡ Some bytes
    → length digits / 2 ≤ 255 → value_said true digits ≡ Some bytes
unfolding value_said
said_by digits bytes e few = few_of digits bytes (decode_of digits) refl e few

pub said_not : (digits : List ℕ) → ok_value (decode_of digits) ≡ None → value_said true digits ≡ None
unfolding value_said
said_not digits e = ap (option_and_then fitting) e

-- bytes that are given as they are
pub said_plain : (given : List ℕ) → length given ≤ 255 → value_said false given ≡ Some given
unfolding value_said
said_plain given few = fits given few

pub said_too_long : (given : List ℕ) → 255 < length given → value_said false given ≡ None
unfolding value_said
said_too_long given many = is_too_long given many
