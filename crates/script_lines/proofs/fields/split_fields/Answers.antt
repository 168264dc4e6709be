use Rattle.std.proofs.Common.{length, sym, ap, arith}
use Rattle.script_lines.proofs.FieldLemmas.{two_parts}
use Rattle.script_lines.proofs.fields.split_fields.Goals as goal

pub returns-then-is_some-clause-value : goal.returns-then-is_some-clause-value
returns-then-is_some-clause-value c =
    let some = c.if-is_some.ensures in
    let first = rw c.in-Some.is at c.cut_field.ensures.parts in
    let second = rw c.in-Some-rest.is at c.cut_field-2.ensures.parts in
    let third = rw c.in-Some-rest-2.is at c.cut_field-3.ensures.parts in
    let last = two_parts c.in-Some-rest-2.rest.now c.cut_field-4.result.0.now c.cut_field-4.result.1
    c.cut_field-4.ensures.parts (sym some) in
    omega (arith, last, ap length first, ap length second, ap length third)
