use Rattle.std.proofs.Common.{◌≡◌, ◌+◌, ◌<◌, length, refl, sym, ap, ◌∙◌, arith}
use Rattle.std.proofs.lemmas.Result.{err_from_is_err_and}
use Rattle.store_model.specs.Parameters.{slots_limit}
use Rattle.table_walk.specs.Indexes.{entry_of}
use Rattle.table_walk.specs.declared.way.Standing.{Standing}
use Rattle.table_walk.specs.Windows.{held_slot}
use Rattle.table_walk.proofs.Checking.{Stands, visits_at, checking_starts, checking_free, checking_page}
use Rattle.table_walk.proofs.Ending.{checks_other, checks_far, checks_greater, checks_fails, checks_all}
use Rattle.table_walk.proofs.Windowing.{window_kept}
use Rattle.table_walk.proofs.Noting.{noting_starts, noting_free, noting_page, noting_ends}
use Rattle.table_walk.proofs.check.check_round.Goals as goal

pub loop-place-init : goal.loop-place-init
loop-place-init g c = (
  checking_starts (g.W.Draw.drawn c.args.draw.now) c.args.height c.args.round.now _ c.args.steps.now slots_limit,
  g.met.S.ReadSlots.follows_refl c.args.slots.now,
  record {
    room = omega (arith, c.new-window.ensures);
    held = λ observable i below. absurd (omega (arith, below, c.new-window.ensures));
  },
  noting_starts (g.W.Draw.digests c.args.draw.now)
      c.args.round.now (g.S.ReadSlots.state c.args.slots.now) c.args.entries.now,
)

pub loop-place-preserved-in-Free : goal.loop-place-preserved-in-Free
loop-place-preserved-in-Free g c = (
  checking_free _ _ _ _ _ _ _ _ _ _ _ _ _ _ _
      (visits_at _ _ c.args.round.now _ _ _ _ _ _ _ _ _ _ _ _ (g.met.W.Draw.lawful c.args.draw.now)
      c.requires.round c.requires.count c.loop-place.invariant.0 c.loop-place-test.true c.slot-at.ensures.value
      c.slot-at.ensures.below c.in_ok-content.ensures.call)
      (rw c.in-Free.is at c.in_ok-content.ensures.tells) c.tick.ensures,
  g.met.S.ReadSlots.follows_trans c.args.slots.now c.loop-place.slots c.content.new.slots c.loop-place.invariant.1
      c.in_ok-content.ensures.follows,
  c.in_ok-content.ensures.window,
  noting_free _ _ _ _ _ _ _ _ _ _ _ _ _ _
      (visits_at _ _ c.args.round.now _ _ _ _ _ _ _ _ _ _ _ _ (g.met.W.Draw.lawful c.args.draw.now)
      c.requires.round c.requires.count c.loop-place.invariant.0 c.loop-place-test.true c.slot-at.ensures.value
      c.slot-at.ensures.below c.in_ok-content.ensures.call) c.loop-place.entries (g.W.Draw.digests c.args.draw.now)
      c.loop-place.invariant.3 (rw c.in-Free.is at c.in_ok-content.ensures.tells),
)

pub returns-in-Other-clause-call : goal.returns-in-Other-clause-call
returns-in-Other-clause-call g c = checks_other _ _ _ _ _ _ _ _ _ _ _ _ _ _ _
    (visits_at _ _ c.args.round.now _ _ _ _ _ _ _ _ _ _ _ _ (g.met.W.Draw.lawful c.args.draw.now)
    c.requires.round c.requires.count c.loop-place.invariant.0 c.loop-place-test.true c.slot-at.ensures.value
    c.slot-at.ensures.below c.in_ok-content.ensures.call)
    (rw c.in-Other.is at c.in_ok-content.ensures.tells) c.tick.ensures

pub returns-then-place-run-clause-call : goal.returns-then-place-run-clause-call
returns-then-place-run-clause-call g c =
    let stands : Stands (g.W.Draw.drawn c.args.draw.now)
    c.args.height c.args.round.now (held_slot c.content.new.self c.slot-at.result) c.in-Held.label c.start_by.result
    c.way_between-way.result c.slot-at.result =
    record {
      held = rw c.in-Held.is at c.in_ok-content.ensures.tells;
      start_is = c.start_by.ensures;
      way_is = c.way_between-way.ensures.value;
      way_below = c.way_between-way.ensures.below;
    } in
    let page : Standing = record {
      label = c.in-Held.label;
      place = c.loop-place.place;
      way = c.way_between-way.result;
    } in
    checks_far _ _ _ _ _ _ _ _ _ _ _ _ _ _ _ _ page
    (visits_at _ _ c.args.round.now _ _ _ _ _ _ _ _ _ _ _ _ (g.met.W.Draw.lawful c.args.draw.now)
    c.requires.round c.requires.count c.loop-place.invariant.0 c.loop-place-test.true c.slot-at.ensures.value
    c.slot-at.ensures.below c.in_ok-content.ensures.call) stands
    c.if-place-run.true (omega (arith, c.tick.ensures, c.tick-in-loop-place.ensures))

pub returns-in_err-from-clause-call : goal.returns-in_err-from-clause-call
returns-in_err-from-clause-call g c =
    let p = err_from_is_err_and c.from_residual-in_err-from.result c.from_residual-in_err-from.ensures.1 in
    let page : Standing = record {
      label = c.in-Held.label;
      place = c.loop-place.place;
      way = c.way_between-way.result;
    } in
    rw (p.1, p.2) (checks_fails _ _ _ _ _ _ _ _ _ _ _ _ _ _ _ _ _ page
    c.in_err-from.field-0.0
    (visits_at _ _ c.args.round.now _ _ _ _ _ _ _ _ _ _ _ _ (g.met.W.Draw.lawful c.args.draw.now)
    c.requires.round c.requires.count c.loop-place.invariant.0 c.loop-place-test.true c.slot-at.ensures.value
    c.slot-at.ensures.below c.in_ok-content.ensures.call) refl
    c.if-place-run.false (omega (arith, c.tick.ensures, c.tick-in-loop-place.ensures)) c.in_err-from.ensures.call)

pub returns-in_default-clause-call : goal.returns-in_default-clause-call
returns-in_default-clause-call g c =
    let stands : Stands (g.W.Draw.drawn c.args.draw.now)
    c.args.height c.args.round.now (held_slot c.content.new.self c.slot-at.result) c.in-Held.label c.start_by.result
    c.way_between-way.result c.slot-at.result =
    record {
      held = rw c.in-Held.is at c.in_ok-content.ensures.tells;
      start_is = c.start_by.ensures;
      way_is = c.way_between-way.ensures.value;
      way_below = c.way_between-way.ensures.below;
    } in
    let page : Standing = record {
      label = c.in-Held.label;
      place = c.loop-place.place;
      way = c.way_between-way.result;
    } in
    let counts : c.tick-in-loop-place.new.self ≡ c.loop-place.steps + 2 =
    omega (arith, c.tick.ensures, c.tick-in-loop-place.ensures) in
    checks_greater _ _ _ _ _ _ _ _ _ _ _ _ _ _ _ _ _ _ page
    (visits_at _ _ c.args.round.now _ _ _ _ _ _ _ _ _ _ _ _ (g.met.W.Draw.lawful c.args.draw.now)
    c.requires.round c.requires.count c.loop-place.invariant.0 c.loop-place-test.true c.slot-at.ensures.value
    c.slot-at.ensures.below c.in_ok-content.ensures.call) stands refl c.if-place-run.false counts
    (rw c.in_default.is at c.in_ok-from.ensures.call)

pub loop-place-preserved : goal.loop-place-preserved
loop-place-preserved g c =
    let stands : Stands (g.W.Draw.drawn c.args.draw.now)
    c.args.height c.args.round.now (held_slot c.content.new.self c.slot-at.result) c.in-Held.label c.start_by.result
    c.way_between-way.result c.slot-at.result =
    record {
      held = rw c.in-Held.is at c.in_ok-content.ensures.tells;
      start_is = c.start_by.ensures;
      way_is = c.way_between-way.ensures.value;
      way_below = c.way_between-way.ensures.below;
    } in
    let page : Standing = record {
      label = c.in-Held.label;
      place = c.loop-place.place;
      way = c.way_between-way.result;
    } in
    let counts : c.tick-in-loop-place.new.self ≡ c.loop-place.steps + 2 =
    omega (arith, c.tick.ensures, c.tick-in-loop-place.ensures) in
    let room : c.loop-place.place < length c.loop-place.reach =
    omega (arith, c.loop-place-test.true, c.requires.round, c.requires.most) in (
      checking_page _ _ _ _ _ _ _ _ _ _ _ _ _ _ _ _ _ c.in-Some.from
          (held_slot c.content.new.self c.slot-at.result) page
          (visits_at _ _ c.args.round.now _ _ _ _ _ _ _ _ _ _ _ _ (g.met.W.Draw.lawful c.args.draw.now)
          c.requires.round c.requires.count c.loop-place.invariant.0 c.loop-place-test.true c.slot-at.ensures.value
          c.slot-at.ensures.below c.in_ok-content.ensures.call) stands refl c.if-place-run.false room counts
          (rw c.in-Some.is at c.in_ok-from.ensures.call),
      g.met.S.ReadSlots.follows_trans c.args.slots.now c.content.new.slots c.passed_from.new.slots
          (g.met.S.ReadSlots.follows_trans c.args.slots.now c.loop-place.slots c.content.new.slots
          c.loop-place.invariant.1
          c.in_ok-content.ensures.follows) c.in_ok-from.ensures.follows,
      window_kept (g.S.ReadSlots.state c.content.new.slots) (g.S.ReadSlots.state c.passed_from.new.slots)
          c.content.new.self c.in_ok-from.ensures.call.calls.observable c.in_ok-from.ensures.call.reads
          c.in_ok-content.ensures.window,
      noting_page _ _ _ _ _ _ _ _ _ _ _ _ _ _
          (visits_at _ _ c.args.round.now _ _ _ _ _ _ _ _ _ _ _ _ (g.met.W.Draw.lawful c.args.draw.now)
          c.requires.round c.requires.count c.loop-place.invariant.0 c.loop-place-test.true c.slot-at.ensures.value
          c.slot-at.ensures.below c.in_ok-content.ensures.call) c.loop-place.entries (g.W.Draw.digests c.args.draw.now)
          c.loop-place.invariant.3 c.in-Held.label c.new.result
          (rw c.in-Held.is at c.in_ok-content.ensures.tells) (c.new.ensures
          ∙ ap (λ n. entry_of n c.slot-at.result) c.digest-digest.ensures.value)
          (omega (
            arith,
            c.loop-place.invariant.0.used_within,
            c.loop-place-test.true,
            c.requires.round,
            c.requires.room,
            c.loop-place.auto.entries,
          )),
    )

pub returns-clause-call : goal.returns-clause-call
returns-clause-call g c =
    checks_all (g.W.Draw.drawn c.args.draw.now) c.args.height c.args.round.now _ _ _ _
    c.loop-place.reach c.loop-place.place _ c.loop-place.used (g.met.W.Draw.lawful c.args.draw.now)
    c.requires.round c.requires.count c.args.round.now.first_in_range
    (omega (arith, c.loop-place-test.false, c.loop-place.auto.place-end))
    (g.met.S.ReadSlots.counted c.args.slots.now) c.loop-place.invariant.0

pub returns-clause-noted : goal.returns-clause-noted
returns-clause-noted g c =
    noting_ends (g.W.Draw.digests c.args.draw.now) c.args.round.now (g.S.ReadSlots.state c.args.slots.now)
    c.loop-place.entries c.loop-place.place c.loop-place.used c.args.round.now.first_in_range (c.requires.round
    ∙ sym c.requires.count)
    (omega (arith, c.loop-place-test.false, c.loop-place.auto.place-end))
    (omega (
      arith,
      c.loop-place.invariant.0.used_within,
      c.loop-place.auto.place-end,
      c.requires.round,
      c.requires.room,
    )) (g.met.S.ReadSlots.counted c.args.slots.now) c.loop-place.invariant.3
