use Rattle.std.proofs.Common.{◌≡◌, ◌+◌, [], drop, get_or, sym, ap, ◌∙◌, arith}
use Rattle.std.specs.List.{fold}
use Rattle.std.proofs.lemmas.List.{drop_more, drop_all}
use Rattle.script_lines.proofs.FieldLemmas.{with_digit, number_small, number_large}
use Rattle.script_lines.proofs.fields.digits_value.Goals as goal

pub returns-in_err-tens : goal.returns-in_err-tens
returns-in_err-tens c =
    let i = c.loop-digit.digit-index in
    let digits = c.args.digits.now in
    let left = drop_more digits i 0 c.loop-digit-test.true in
    let large = c.in_err-tens.ensures in
    rw c.from_residual.ensures
    (number_large digits (drop (i + 1) digits) c.loop-digit.value (get_or digits i 0)
    (sym (ap (fold with_digit c.loop-digit.value) left) ∙ c.loop-digit.invariant.0) (omega (arith, large)))

pub returns-in_err-value : goal.returns-in_err-value
returns-in_err-value c =
    let i = c.loop-digit.digit-index in
    let digits = c.args.digits.now in
    let left = drop_more digits i 0 c.loop-digit-test.true in
    let large = c.in_err-value.ensures in
    rw c.from_residual-in_err-value.ensures
    (number_large digits (drop (i + 1) digits) c.loop-digit.value (get_or digits i 0)
    (sym (ap (fold with_digit c.loop-digit.value) left) ∙ c.loop-digit.invariant.0)
    (omega (arith, large, c.in_ok-tens.ensures.1, c.from.ensures)))

pub returns : goal.returns
returns c =
    let rest : drop c.loop-digit.digit-index c.args.digits.now ≡ [] =
    drop_all c.loop-digit.digit-index c.args.digits.now (omega arith) in
    number_small c.args.digits.now c.loop-digit.value (sym (ap (fold with_digit c.loop-digit.value) rest)
    ∙ c.loop-digit.invariant.0) c.loop-digit.invariant.1
