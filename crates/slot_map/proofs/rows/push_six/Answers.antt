use Rattle.std.proofs.Common.{◌≡◌, ℕ, ◌-◌, ◌++◌, List, length, take, replicate, ap, ◌∙◌, arith}
use Rattle.std.specs.Fmt.{decimal}
use Rattle.std.proofs.lemmas.List.{take-replicate, append_assoc}
use Rattle.slot_map.specs.Pictures.{six_digits}
use Rattle.slot_map.proofs.rows.push_six.Goals as goal

pub returns-clause-value : goal.returns-clause-value
unfolding six_digits
returns-clause-value c =
    let number = decimal c.args.number in
    let digits : c.as_bytes-digits.result.now ≡ number = c.as_bytes-digits.ensures.value ∙ c.format.ensures.text in
    let count : c.saturating_sub.result ≡ 6 - length number =
    c.saturating_sub.ensures ∙ ap (λ (xs : List ℕ). 6 - length xs) digits in
    let front : take c.saturating_sub.result (replicate 6 48) ≡ replicate (6 - length number) 48 =
    ap (λ (n : ℕ). take n (replicate 6 48)) count ∙ take-replicate (6 - length number) 6 48 (omega arith) in
    c.push-2.ensures ∙ ap (λ (xs : List ℕ). xs ++ c.as_bytes-digits.result.now)
    (c.push.ensures ∙ ap (λ (xs : List ℕ). c.args.text.now ++ xs) front)
    ∙ append_assoc c.args.text.now (replicate (6 - length number) 48) c.as_bytes-digits.result.now
    ∙ ap (λ (xs : List ℕ). c.args.text.now ++ (replicate (6 - length number) 48 ++ xs)) digits
