use Rattle.std.proofs.Common.{◌∙◌, arith, sym, ap, Some}
use Rattle.box_words.proofs.Values.{said_plain, said_too_long}
use Rattle.box_words.proofs.attr.value_of.Goals as goal

pub returns-then-given-gt-MAX_VALUE : goal.returns-then-given-gt-MAX_VALUE
returns-then-given-gt-MAX_VALUE c =
    rw c.if-is_hex.false (sym (said_too_long c.args.given.now (omega arith)))

pub returns : goal.returns
returns c = ap Some c.new.ensures ∙ rw c.if-is_hex.false (sym (said_plain c.args.given.now (omega arith)))
