use Rattle.std.proofs.Common.{true, false, sym, ◌∙◌, arith}
use Rattle.std.proofs.lemmas.Result.{err_from_is_err_and}
use Rattle.page_store.proofs.IndexLemmas.{noting_begins, noting_more, noting_read, noting_stops, noting_fails}
use Rattle.page_store.proofs.IndexLemmas.{noting_ends, after_ok}
use Rattle.page_store.proofs.index.note_slots.Goals as goal

pub get-requires : goal.get-requires
get-requires g c = omega (arith, c.loop-at-test.true, c.requires, c.loop-at.invariant.0.calls.count)

pub loop-at-init : goal.loop-at-init
loop-at-init g c = (noting_begins _ _ _, g.met.S.ReadSlots.follows_refl c.args.slots.now)

pub loop-at-preserved : goal.loop-at-preserved
loop-at-preserved g c = (
  noting_more _ _ _ _ c.loop-at.at _ _ c.get.new.into c.loop-at.invariant.0 c.in_ok-get.ensures.call
      (after_ok c.note.result c.note.ensures (sym c.is_err.ensures.value ∙ c.if-is_err.false)),
  g.met.S.ReadSlots.follows_trans c.args.slots.now c.loop-at.slots c.get.new.self c.loop-at.invariant.1
      c.in_ok-get.ensures.follows,
)

pub returns-in_err-get-clause-call : goal.returns-in_err-get-clause-call
returns-in_err-get-clause-call g c =
    let p = err_from_is_err_and c.from_residual.result c.from_residual.ensures.1 in
    rw (p.1, p.2) (noting_fails _ _ _ _ _ _ c.get.new.into c.in_err-get.field-0.0 c.loop-at.invariant.0
    c.in_err-get.ensures.call)

pub returns-in_err-get-clause-follows : goal.returns-in_err-get-clause-follows
returns-in_err-get-clause-follows g c =
    g.met.S.ReadSlots.follows_trans c.args.slots.now c.loop-at.slots c.get.new.self c.loop-at.invariant.1
    c.in_err-get.ensures.follows

pub returns-then-is_err-clause-call : goal.returns-then-is_err-clause-call
returns-then-is_err-clause-call g c =
    noting_stops _ _ _ _ _ _ c.get.new.into false c.loop-at.invariant.0 c.in_ok-get.ensures.call

pub returns-then-is_err-clause-follows : goal.returns-then-is_err-clause-follows
returns-then-is_err-clause-follows g c =
    g.met.S.ReadSlots.follows_trans c.args.slots.now c.loop-at.slots c.get.new.self c.loop-at.invariant.1
    c.in_ok-get.ensures.follows

pub returns-clause-call : goal.returns-clause-call
returns-clause-call g c = noting_read _ _ _ _ _ true c.loop-at.invariant.0

pub returns-clause-index : goal.returns-clause-index
returns-clause-index g c =
    noting_ends _ _ _ _ _ c.loop-at.invariant.0 (omega (arith, c.loop-at-test.false, c.requires))
    (g.met.S.ReadSlots.counted c.loop-at.slots)

pub returns-clause-follows : goal.returns-clause-follows
returns-clause-follows g c = c.loop-at.invariant.1
