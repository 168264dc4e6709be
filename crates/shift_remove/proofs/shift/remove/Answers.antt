use Rattle.std.proofs.Common.{◌≡◌, ℕ, ◌+◌, ◌%◌, ◌<◌, subst, ◌∙◌, refl, arith}
use Rattle.std.proofs.lemmas.Bool.{false≢true}
use Rattle.std.proofs.lemmas.Result.{err_from_is_err_and}
use Rattle.ordered_table.proofs.Reading.{probe_next}
use Rattle.shift_remove.proofs.RemoveCalls.{removing_starts, removes_fault, so_far, removes_at_free, removes_all}
use Rattle.shift_remove.proofs.RemoveCalls.{removing_stays, removing_moves, empty_bytes}
use Rattle.shift_remove.proofs.shift.remove.Goals as goal
use Rattle.shift_remove.proofs.shift.remove.Goals.{then-passes+in_ok-set, else-passes}

pub loop-look-init : goal.loop-look-init
loop-look-init g c =
    let law = g.met.W.Draw.lawful c.args.draw.now in (
      removing_starts (g.W.Draw.drawn c.args.draw.now) _ c.args.at law
          (omega (arith, c.requires.below, c.requires.count)),
      g.met.S.ReadSlots.follows_refl c.args.slots.now,
    )

pub returns-in_default-clause-call : goal.returns-in_default-clause-call
returns-in_default-clause-call g c =
    let s = c.loop-look.invariant.0 in
    let d = g.W.Draw.drawn c.args.draw.now in
    let next = subst (λ (n : ℕ). c.next_slot-place.result ≡ (c.loop-look.place + 1) % n)
    c.slots-count.ensures c.next_slot-place.ensures.value
    ∙ probe_next d.slots c.args.at c.loop-look._look c.loop-look.place s.place_is in
    removes_at_free d _ _ _ _ c.args.at _ _ _ _ _ _ c.label_in.result c.set.result s
    (omega (arith, c.loop-look-test.true, c.slots-count.ensures)) next
    c.in_ok-get.ensures.call c.label_in.ensures.page c.in_default.is empty_bytes c.set.ensures.call

pub returns-in_err-set-clause-call : goal.returns-in_err-set-clause-call
returns-in_err-set-clause-call g c =
    let p = err_from_is_err_and c.from_residual-in_err-set.result c.from_residual-in_err-set.ensures.1 in
    let s = c.loop-look.invariant.0 in
    rw (p.1, p.2) (removes_fault (g.W.Draw.drawn c.args.draw.now) _ _ _
    c.args.at c.in_err-set.field-0.0 (so_far _ _ _ _ _ s.calls c.in_ok-get.ensures.call)
    c.in_err-set.ensures.call.calls)

pub loop-look-preserved : goal.loop-look-preserved
loop-look-preserved g c =
    let s = c.loop-look.invariant.0 in
    let d = g.W.Draw.drawn c.args.draw.now in
    let within : c.loop-look._look + 1 < d.slots = omega (arith, c.loop-look-test.true, c.slots-count.ensures) in
    let next = subst (λ (n : ℕ). c.next_slot-place.result ≡ (c.loop-look.place + 1) % n)
    c.slots-count.ensures c.next_slot-place.ensures.value
    ∙ probe_next d.slots c.args.at c.loop-look._look c.loop-look.place s.place_is in
    let next_within : c.next_slot-place.result < d.slots =
    omega (arith, c.next_slot-place.ensures.below, c.slots-count.ensures) in
    let follows = g.met.S.ReadSlots.follows_trans c.args.slots.now c.loop-look.slots c.get.new.self
    c.loop-look.invariant.1 c.in_ok-get.ensures.follows in
    elim c.if-passes.branch [
      | then-passes+in_ok-set w ↦
          rw (w.slots-is, w.hole-is) (
            removing_moves d _ _ _ _ c.args.at _ _ _ _ c.start.result _ c.label_in.result c.in-Some.label s within next
                next_within c.in_ok-get.ensures.call c.label_in.ensures.free c.label_in.ensures.page c.in-Some.is
                c.start.ensures.value (w.if-passes.ensures.0 refl) w.in_ok-set.ensures.call,
            g.met.S.ReadSlots.follows_trans c.args.slots.now c.get.new.self w.set-then-passes.new.self follows
                w.in_ok-set.ensures.follows,
          )
      | else-passes w ↦
          rw (w.slots-is, w.hole-is) (
            removing_stays d _ _ _ c.args.at _ _ _ _ c.start.result _ c.label_in.result c.in-Some.label s within next
                c.in_ok-get.ensures.call c.label_in.ensures.free c.label_in.ensures.page c.in-Some.is
                c.start.ensures.value (λ passes. false≢true (w.if-passes.ensures.1 passes)),
            follows,
          )
    ]

pub returns-clause-call : goal.returns-clause-call
returns-clause-call g c =
    removes_all (g.W.Draw.drawn c.args.draw.now) _ _ _ c.args.at _ _ _ _
    c.set-2.result c.loop-look.invariant.0 (omega (arith, c.loop-look-test.false, c.slots-count.ensures))
    empty_bytes c.set-2.ensures.call
