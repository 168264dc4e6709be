use Rattle.std.proofs.Common.{◌≡◌, ℕ, ◌+◌, ◌-◌, ◌%◌, ◌<◌, ◌≤◌, subst, arith}
use Rattle.std.proofs.lemmas.Result.{err_from_is_err_and}
use Rattle.ordered_table.proofs.InsertCalls.{is_less, is_not_less}
use Rattle.ordered_table.proofs.Settling.{settles_unread, settles_unwritten, settles_free, settles_displacing}
use Rattle.ordered_table.proofs.Settling.{on_way_goes_on, settles_round}
use Rattle.ordered_table.proofs.change.displace.Goals as goal

pub returns-in_err-get-clause-call : goal.returns-in_err-get-clause-call
returns-in_err-get-clause-call g c =
    let p = err_from_is_err_and c.from_residual.result c.from_residual.ensures.1 in
    rw (p.1, p.2) (settles_unread (g.W.Draw.drawn c.args.draw.now) _ _ _ _ _ _ _ _ _
    c.in_err-get.field-0.0 c.loop-look.invariant.0 c.in_err-get.ensures.call)

pub returns-in_err-set-clause-call : goal.returns-in_err-set-clause-call
returns-in_err-set-clause-call g c =
    let p = err_from_is_err_and c.from_residual-in_err-set.result c.from_residual-in_err-set.ensures.1 in
    rw (p.1, p.2) (settles_unwritten (g.W.Draw.drawn c.args.draw.now) _ _ _ _ _ _ _ _ _ _
    c.in_err-set.field-0.0 c.loop-look.invariant.0 c.in_ok-get.ensures.call c.in_err-set.ensures.call)

pub returns-in_default-clause-call : goal.returns-in_default-clause-call
returns-in_default-clause-call g c =
    let law = g.met.W.Draw.lawful c.args.draw.now in
    settles_free (g.W.Draw.drawn c.args.draw.now) _ _ _ _ _ _ _ _ _ c.label_in.result law
    c.loop-look.invariant.0 c.in_ok-get.ensures.call c.label_in.ensures.page c.in_default.is
    c.in_ok-set.ensures.call

pub returns-in_err-set-2-clause-call : goal.returns-in_err-set-2-clause-call
returns-in_err-set-2-clause-call g c =
    let p = err_from_is_err_and c.from_residual-in_err-set-2.result c.from_residual-in_err-set-2.ensures.1 in
    rw (p.1, p.2) (settles_unwritten (g.W.Draw.drawn c.args.draw.now) _ _ _ _ _ _ _ _ _ _
    c.in_err-set-2.field-0.0 c.loop-look.invariant.0 c.in_ok-get.ensures.call c.in_err-set-2.ensures.call)

pub returns-then-lt-clause-call : goal.returns-then-lt-clause-call
returns-then-lt-clause-call g c =
    let law = g.met.W.Draw.lawful c.args.draw.now in
    let next = subst (λ (n : ℕ). c.next_slot-next.result ≡ (c.loop-look.at + 1) % n)
    c.slots-count.ensures c.next_slot-next.ensures.value in
    let below = subst (λ (n : ℕ). c.next_slot-next.result < n) c.slots-count.ensures c.next_slot-next.ensures.below in
    let one_fewer : c.args.way.now.left - c.loop-look.look ≡ c.args.way.now.left - c.loop-look.look - 1 + 1 =
    omega (arith, c.loop-look-test.true) in
    let most : c.args.way.now.left - c.loop-look.look ≤ c.args.way.now.left = omega arith in
    settles_displacing (g.W.Draw.drawn c.args.draw.now) _ _ _ _ _ _ _ _ _ _ c.label_in.result law
    c.loop-look.invariant.0 c.in_ok-get.ensures.call c.label_in.ensures.free c.label_in.ensures.page c.in-Some.is
    (is_less _ c.if-lt.ensures) c.in_ok-set-2.ensures.call next below one_fewer most

pub loop-look-preserved : goal.loop-look-preserved
loop-look-preserved g c =
    let law = g.met.W.Draw.lawful c.args.draw.now in
    let next = subst (λ (n : ℕ). c.next_slot-next.result ≡ (c.loop-look.at + 1) % n)
    c.slots-count.ensures c.next_slot-next.ensures.value in
    let below = subst (λ (n : ℕ). c.next_slot-next.result < n) c.slots-count.ensures c.next_slot-next.ensures.below in
    let one_fewer : c.args.way.now.left - c.loop-look.look ≡ c.args.way.now.left - (c.loop-look.look + 1) + 1 =
    omega (arith, c.loop-look-test.true) in (
      on_way_goes_on (g.W.Draw.drawn c.args.draw.now) _ _ _ _ _ _ _ _ _ _ c.label_in.result c.in-Some.other law
          c.loop-look.invariant.0 c.in_ok-get.ensures.call c.label_in.ensures.free c.label_in.ensures.page c.in-Some.is
          (is_not_less _ c.if-lt.ensures) next below one_fewer,
      g.met.S.ReadSlots.follows_trans c.args.slots.now c.loop-look.slots c.get.new.self c.loop-look.invariant.1
          c.in_ok-get.ensures.follows,
    )

pub returns-clause-call : goal.returns-clause-call
returns-clause-call g c =
    let none : c.args.way.now.left - c.loop-look.look ≡ 0 = omega (arith, c.loop-look-test.false) in
    settles_round (g.W.Draw.drawn c.args.draw.now) _ _ _ _ _ _ _ none c.loop-look.invariant.0
