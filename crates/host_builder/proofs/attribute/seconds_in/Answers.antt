use Rattle.std.proofs.Common.{ℕ, List, Ok, Err, subst}
use Rattle.std.specs.Str.Parse.{ParsesUnsigned}
use Rattle.host_builder.proofs.Seconds.{seconds_of_no_text, seconds_of_no_number, seconds_of_other, seconds_of_digits}
use Rattle.host_builder.proofs.attribute.seconds_in.Goals as goal

pub returns-in_default-clause-value : goal.returns-in_default-clause-value
returns-in_default-clause-value c = seconds_of_no_text c.args.digits.now c.in_default.ensures.cases.0

pub returns-in_default-parse-clause-value : goal.returns-in_default-parse-clause-value
returns-in_default-parse-clause-value c =
    seconds_of_no_number {E = Unit {0}} c.args.digits.now tt
    (subst (λ (bs : List ℕ). ParsesUnsigned {E = Unit {0}} 64 10 bs (Err tt)) c.in-Ok.ensures.cases.0
    c.in_default-parse.ensures.value.0)

pub returns-then-is_spelled-clause-value : goal.returns-then-is_spelled-clause-value
returns-then-is_spelled-clause-value c =
    seconds_of_digits c.args.digits.now c.in-Ok-parse.seconds (c.is_spelled.ensures.0 c.if-is_spelled.true).0
    (c.is_spelled.ensures.0 c.if-is_spelled.true).1

pub returns-else-is_spelled-clause-value : goal.returns-else-is_spelled-clause-value
returns-else-is_spelled-clause-value c =
    seconds_of_other (Unit {0}) c.args.digits.now c.in-Ok-parse.seconds
    (subst (λ (bs : List ℕ). ParsesUnsigned {E = Unit {0}} 64 10 bs (Ok c.in-Ok-parse.seconds)) c.in-Ok.ensures.cases.0
    c.in-Ok-parse.ensures.value.0)
    (λ is small. let true_is = c.is_spelled.ensures.1 (is, small) in let false_is = c.if-is_spelled.false in cc)
