use Rattle.std.proofs.Common.{◌≡◌, ℕ, ◌<◌, ◌==◌, List, length, Option, Some, None, Bool, true, false, cond, refl, sym}
use Rattle.std.proofs.Common.{ap, ◌∙◌, arith}
use Rattle.std.specs.List.{position, position_or_len}
use Rattle.std.proofs.lemmas.Bool.{lt-ltb, le-ltb}
use Rattle.std.proofs.lemmas.List.Sums.{position_or_len_is}
use Rattle.memchr.specs.Find.{IsFirstByte, is_byte}
use Rattle.script_lines.proofs.find.find_byte.Goals as goal

not_true : (b : Bool) → ¬ (b ≡ true) → b ≡ false
not_true true never = absurd (never refl)
not_true false never = refl

-- the first place whose byte passes the test is where the byte stands
found_first : (byte : ℕ) (bytes : List ℕ) (found : Option ℕ) → IsFirstByte (is_byte byte) bytes found
    → found ≡ position (λ c. c == byte) bytes
found_first byte bytes None nowhere =
    let n = position_or_len (λ c. c == byte) bytes in
    let at_end : n ≡ length bytes = position_or_len_is (λ c. c == byte) bytes (length bytes) 0 (omega arith)
    (λ k below. not_true _ (nowhere k (omega arith) below)) (λ below. absurd (omega arith)) in
    sym (ap (λ b. cond b (Some n) None) (le-ltb n (length bytes) (omega (arith, at_end))))
found_first byte bytes (Some place) first =
    let n = position_or_len (λ c. c == byte) bytes in
    let high : place < length bytes = first.0.high in
    let there : n ≡ place = position_or_len_is (λ c. c == byte) bytes place 0 (omega arith)
    (λ k below. not_true _ (first.0.before k (omega arith) below)) (λ below. first.1) in
    sym (ap (λ b. cond b (Some n) None) (lt-ltb n (length bytes) (omega (arith, there, high))) ∙ ap Some there)

pub returns : goal.returns
returns c = found_first c.args.byte c.args.bytes.now c.memchr.result c.memchr.ensures
