-- How many zero digits a byte string begins with.
use Rattle.std.proofs.Common.{◌≡◌, ◌≢◌, ℕ, ◌+◌, ◌/◌, ◌%◌, ◌<◌, ◌≤◌, List, ◌∷◌, true, false, cond, ◌==◌, ap, ◌∙◌, arith}
use Rattle.std.specs.List.{prefix_len}
use Rattle.std.proofs.lemmas.Bool.{eq-eqb, ne_eqb}
use Rattle.store_model.specs.Draws.{hex_digits}

-- the number of zero digits
abbrev pub zero_digits : List ℕ → ℕ
zero_digits bytes = prefix_len (λ d. d == 0) (hex_digits bytes)

-- a zero byte is two of them
pub zero_byte : (b : ℕ) (bytes : List ℕ) → b ≡ 0 → zero_digits (b ∷ bytes) ≡ 2 + zero_digits bytes
zero_byte b bytes e =
    let high : (b / 16 == 0) ≡ true = eq-eqb (b / 16) 0 (omega arith) in
    let low : (b % 16 == 0) ≡ true = eq-eqb (b % 16) 0 (omega arith) in
    ap (λ s. cond s (1 + cond (b % 16 == 0) (1 + zero_digits bytes) 0) 0) high
    ∙ ap (λ t. 1 + cond t (1 + zero_digits bytes) 0) low ∙ (omega arith)

-- a byte below 16 that is not zero ends them behind its first digit
pub small_byte : (b : ℕ) (bytes : List ℕ) → b ≢ 0 → b < 16 → zero_digits (b ∷ bytes) ≡ 1
small_byte b bytes n h =
    let high : (b / 16 == 0) ≡ true = eq-eqb (b / 16) 0 (omega arith) in
    let low : (b % 16 == 0) ≡ false = ne_eqb (b % 16) 0 (omega arith) in
    ap (λ s. cond s (1 + cond (b % 16 == 0) (1 + zero_digits bytes) 0) 0) high
    ∙ ap (λ t. 1 + cond t (1 + zero_digits bytes) 0) low

-- any other byte ends them at once
pub large_byte : (b : ℕ) (bytes : List ℕ) → 16 ≤ b → zero_digits (b ∷ bytes) ≡ 0
large_byte b bytes h =
    let high : (b / 16 == 0) ≡ false = ne_eqb (b / 16) 0 (omega arith) in
    ap (λ s. cond s (1 + cond (b % 16 == 0) (1 + zero_digits bytes) 0) 0) high
