use Rattle.std.proofs.Common.{◌≡◌, ◌+◌, ◌*◌, length, drop, sym, ap, ◌∙◌, arith, min}
use Rattle.store_model.specs.Paths.{key_cmp}
use Rattle.store_base.proofs.ByteOrder.{word_decides, word_passed, end_order}
use Rattle.store_base.proofs.order.byte_order.Goals as goal

pub returns-then-is_ne : goal.returns-then-is_ne
returns-then-is_ne c =
    sym (c.loop-word.invariant
    ∙ word_decides (8 * c.loop-word.word) c.args.bytes.now c.args.other.now c.word_at.result
    c.word_at-in-loop-word.result c.cmp-order.result
    (λ i. omega (arith, c.type_inv.bytes i)) (λ i. omega (arith, c.type_inv.other i))
    (omega (arith, c.loop-word-test.true, c.min-both.ensures))
    (omega (arith, c.loop-word-test.true, c.min-both.ensures))
    c.word_at.ensures c.word_at-in-loop-word.ensures c.cmp-order.ensures (sym c.is_ne.ensures ∙ c.if-is_ne.true))

pub loop-word-preserved : goal.loop-word-preserved
loop-word-preserved c =
    let next : 8 * c.loop-word.word + 8 ≡ 8 * (c.loop-word.word + 1) = omega arith in
    c.loop-word.invariant
    ∙ word_passed (8 * c.loop-word.word) c.args.bytes.now c.args.other.now c.word_at.result
    c.word_at-in-loop-word.result c.cmp-order.result
    (λ i. omega (arith, c.type_inv.bytes i)) (λ i. omega (arith, c.type_inv.other i))
    (omega (arith, c.loop-word-test.true, c.min-both.ensures))
    (omega (arith, c.loop-word-test.true, c.min-both.ensures))
    c.word_at.ensures c.word_at-in-loop-word.ensures c.cmp-order.ensures (sym c.is_ne.ensures ∙ c.if-is_ne.false)
    ∙ ap (λ n. key_cmp (drop n c.args.bytes.now) (drop n c.args.other.now)) next

pub returns : goal.returns
returns c =
    let at : c.loop-at.at ≡ min (length c.args.bytes.now) (length c.args.other.now) =
    omega (arith, c.loop-at-test.false, c.loop-at.auto.at-end, c.min-both.ensures) in
    c.cmp.ensures ∙ sym (c.loop-at.invariant ∙ end_order c.loop-at.at c.args.bytes.now c.args.other.now at)
