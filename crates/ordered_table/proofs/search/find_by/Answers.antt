use Rattle.std.proofs.Common.{◌≡◌, ℕ, ◌+◌, ◌%◌, Some, ap, subst, ◌∙◌, arith}
use Rattle.std.proofs.lemmas.Result.{err_from_is_err_and}
use Rattle.std.specs.declared.cmp.Ordering.TheVariants.{Less, Equal, Greater}
use Rattle.ordered_table.proofs.Searching.{looks_at, searching_goes_on, finds_fails, finds_found, finds_ended}
use Rattle.ordered_table.proofs.Searching.{finds_none}
use Rattle.ordered_table.proofs.search.find_by.Goals as goal

pub returns-in_err-order-clause-call : goal.returns-in_err-order-clause-call
returns-in_err-order-clause-call g c =
    let d = g.W.Draw.drawn c.args.draw.now in
    let law = g.met.W.Draw.lawful c.args.draw.now in
    let p = err_from_is_err_and c.from_residual.result c.from_residual.ensures.1 in
    rw (p.1, p.2) (finds_fails d _ _ _ _ _ _ _ _ _ _ c.in_err-order.field-0.0 law
    c.requires.count (omega (arith, c.loop-look-test.true, c.slots-count.ensures))
    c.loop-look.invariant.0 c.in_err-order.ensures.call c.loop-look.invariant.2 c.tick.ensures)

pub returns-in_default-clause-call : goal.returns-in_default-clause-call
returns-in_default-clause-call g c =
    let d = g.W.Draw.drawn c.args.draw.now in
    let law = g.met.W.Draw.lawful c.args.draw.now in
    let s = looks_at d _ _ _ _ _ _ _ c.in_ok-order.field-0 law
    c.requires.count (omega (arith, c.loop-look-test.true, c.slots-count.ensures))
    c.loop-look.invariant.0 c.in_ok-order.ensures.call c.to_bytes-wanted.ensures.value in
    finds_ended d _ _ _ _ _ _ _ _ _ _ s c.to_bytes-wanted.ensures.valid (λ e. c.in_default.not-Some Less e)
    (λ e. c.in_default.not-Some Equal e) c.loop-look.invariant.2 c.tick.ensures

pub returns-in-Equal-clause-call : goal.returns-in-Equal-clause-call
returns-in-Equal-clause-call g c =
    let d = g.W.Draw.drawn c.args.draw.now in
    let law = g.met.W.Draw.lawful c.args.draw.now in
    let s = looks_at d _ _ _ _ _ _ _ c.in_ok-order.field-0 law
    c.requires.count (omega (arith, c.loop-look-test.true, c.slots-count.ensures))
    c.loop-look.invariant.0 c.in_ok-order.ensures.call c.to_bytes-wanted.ensures.value in
    finds_found d _ _ _ _ _ _ _ _ _ _ s (c.in-Some.is ∙ ap Some c.in-Equal.is) c.loop-look.invariant.2 c.tick.ensures

pub returns-in-Greater-clause-call : goal.returns-in-Greater-clause-call
returns-in-Greater-clause-call g c =
    let d = g.W.Draw.drawn c.args.draw.now in
    let law = g.met.W.Draw.lawful c.args.draw.now in
    let s = looks_at d _ _ _ _ _ _ _ c.in_ok-order.field-0 law
    c.requires.count (omega (arith, c.loop-look-test.true, c.slots-count.ensures))
    c.loop-look.invariant.0 c.in_ok-order.ensures.call c.to_bytes-wanted.ensures.value in
    let greater : c.in_ok-order.field-0 ≡ Some Greater = c.in-Some.is ∙ ap Some c.in-Greater.is in
    finds_ended d _ _ _ _ _ _ _ _ _ _ s c.to_bytes-wanted.ensures.valid (λ e. cc)
    (λ e. cc) c.loop-look.invariant.2 c.tick.ensures

pub loop-look-preserved : goal.loop-look-preserved
loop-look-preserved g c =
    let d = g.W.Draw.drawn c.args.draw.now in
    let law = g.met.W.Draw.lawful c.args.draw.now in
    let s = looks_at d _ _ _ _ _ _ _ c.in_ok-order.field-0 law
    c.requires.count (omega (arith, c.loop-look-test.true, c.slots-count.ensures))
    c.loop-look.invariant.0 c.in_ok-order.ensures.call c.to_bytes-wanted.ensures.value in (
      searching_goes_on d _ _ _ _ _ _ _ _ s (c.in-Some.is ∙ ap Some c.in-Less.is)
          (subst (λ (n : ℕ). c.next_slot-at.result ≡ (c.loop-look.at + 1) % n)
          c.slots-count.ensures c.next_slot-at.ensures.value),
      g.met.S.ReadSlots.follows_trans c.args.slots.now c.loop-look.slots c.compare.new.slots c.loop-look.invariant.1
          c.in_ok-order.ensures.follows,
      omega (arith, c.loop-look.invariant.2, c.tick.ensures),
    )

pub returns-clause-call : goal.returns-clause-call
returns-clause-call g c =
    let d = g.W.Draw.drawn c.args.draw.now in
    let law = g.met.W.Draw.lawful c.args.draw.now in
    finds_none d _ _ _ _ _ _ _ law c.requires.count (omega (arith, c.loop-look-test.false, c.slots-count.ensures))
    (omega (arith, c.loop-look.auto._look-end, c.slots-count.ensures))
    c.loop-look.invariant.0 c.to_bytes-wanted.ensures.valid c.loop-look.invariant.2
