use Rattle.std.proofs.Common.{◌-◌, arith}
use Rattle.std.proofs.lemmas.Result.{err_from_is_err_and}
use Rattle.table_walk.specs.Rounds.{slot_at}
use Rattle.table_walk.proofs.Passing.{passing_starts, get_at, passing_more, passes_not, passes_fails}
use Rattle.table_walk.proofs.Windowing.{window_kept}
use Rattle.table_walk.proofs.way.passed_from.Goals as goal

pub loop-from-init : goal.loop-from-init
loop-from-init g c = (
  passing_starts c.args.round.now _ c.args.page.now c.args.reach.now c.args.steps.now,
  g.met.S.ReadSlots.follows_refl c.args.slots.now,
  c.requires.window,
)

pub returns-in_err-get-clause-call : goal.returns-in_err-get-clause-call
returns-in_err-get-clause-call g c =
    let p = err_from_is_err_and c.from_residual.result c.from_residual.ensures.1 in
    rw (p.1, p.2) (passes_fails c.args.round.now _ _ _ c.args.page.now c.args.reach.now _ _ c.loop-from.from _ _
    c.get.new.into c.in_err-get.field-0.0 c.loop-from.invariant.0 c.loop-from-test.true
    c.in_err-get.ensures.call c.tick.ensures)

pub returns-then-not-holds_less-clause-call : goal.returns-then-not-holds_less-clause-call
returns-then-not-holds_less-clause-call g c =
    passes_not c.args.round.now _ _ _ c.args.page.now c.args.reach.now _ _ c.loop-from.from _
    c.get.new.into c.to_bytes-wanted.result c.holds_less.result (record {
      passing = c.loop-from.invariant.0;
      behind = c.loop-from-test.true;
      fits = c.requires.way;
      below = let value = c.slot.ensures.value in let below = c.slot.ensures.below in omega (arith, value, below);
      get = get_at _ _ _ (slot_at c.args.round.now (c.loop-from.from - 1))
          c.get.new.into c.slot.ensures.value c.in_ok-get.ensures.call;
      wanted_is = c.to_bytes-wanted.ensures.value;
      tells = c.holds_less.ensures;
      ticked = c.tick.ensures;
    }) c.if-not-holds_less.true

pub loop-from-preserved : goal.loop-from-preserved
loop-from-preserved g c = (
  passing_more c.args.round.now _ _ _ c.args.page.now c.args.reach.now _ _ c.loop-from.from _ _
      c.get.new.into c.to_bytes-wanted.result c.holds_less.result (record {
        passing = c.loop-from.invariant.0;
        behind = c.loop-from-test.true;
        fits = c.requires.way;
        below = let value = c.slot.ensures.value in let below = c.slot.ensures.below in omega (arith, value, below);
        get = get_at _ _ _ (slot_at c.args.round.now (c.loop-from.from - 1))
            c.get.new.into c.slot.ensures.value c.in_ok-get.ensures.call;
        wanted_is = c.to_bytes-wanted.ensures.value;
        tells = c.holds_less.ensures;
        ticked = c.tick.ensures;
      }) c.if-not-holds_less.false c.requires.back c.from-from.ensures,
  g.met.S.ReadSlots.follows_trans c.args.slots.now c.loop-from.slots c.get.new.slots c.loop-from.invariant.1
      c.in_ok-get.ensures.follows,
  window_kept (g.S.ReadSlots.state c.loop-from.slots) (g.S.ReadSlots.state c.get.new.slots) c.args.window.now
      c.in_ok-get.ensures.call.calls.observable (λ observable. (c.in_ok-get.ensures.call.observed observable).slots)
      c.loop-from.invariant.2,
)
