use Rattle.std.proofs.Common.{◌∙◌, sym, ap, arith, cond, Some, None}
use Rattle.box_words.proofs.Values.{too_many, said_by, said_not}
use Rattle.box_words.proofs.attr.spelled_value.Goals as goal

pub returns-then-count-gt-MAX_VALUE : goal.returns-then-count-gt-MAX_VALUE
returns-then-count-gt-MAX_VALUE c = sym (too_many c.args.digits.now (omega arith))

pub returns-then-is_decoded : goal.returns-then-is_decoded
returns-then-is_decoded c =
    let new = c.is_decoded.new.into in
    ap Some c.new.ensures ∙ sym (said_by c.args.digits.now new
    (sym c.is_decoded.ensures ∙ ap (λ b. cond b (Some new) None) c.if-is_decoded.true) (omega arith))

pub returns-else-is_decoded : goal.returns-else-is_decoded
returns-else-is_decoded c =
    let new = c.is_decoded.new.into in
    sym (said_not c.args.digits.now
    (sym c.is_decoded.ensures ∙ ap (λ b. cond b (Some new) None) c.if-is_decoded.false))
