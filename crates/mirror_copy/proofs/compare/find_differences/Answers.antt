use Rattle.std.proofs.Common.{◌≡◌, ℕ, ◌+◌, List, [], ◌∷◌, ◌++◌, length, Vec, Global, sym, ap, ◌∙◌, subst, arith}
use Rattle.mirror_copy.proofs.CompareLemmas.{IsComparing, comparing_begins, first_fails, second_fails, keep_fails}
use Rattle.mirror_copy.proofs.CompareLemmas.{comparing_passes, comparing_finds, compared_all}
use Rattle.mirror_copy.proofs.compare.find_differences.Goals.{then-ne+in_ok-keep, else-ne}
use Rattle.mirror_copy.proofs.compare.find_differences.Goals as goal

pub loop-at-init : goal.loop-at-init
loop-at-init g c =
    let from = g.S.ReadSlots.state c.args.from.now in
    let to = g.T.ReadSlots.state c.args.to.now in
    record {
      comparing = subst (λ (items : List (ℕ × List ℕ)). IsComparing from from to to items 0)
          (sym c.new-changed.ensures.items) (comparing_begins from to);
      first = g.met.S.ReadSlots.follows_refl c.args.from.now;
      second = g.met.T.ReadSlots.follows_refl c.args.to.now;
    }

pub get_slot-requires : goal.get_slot-requires
get_slot-requires g c =
    omega (arith, c.loop-at.invariant.comparing.from_calls.count, c.requires.first, c.loop-at-test.true)

pub get_slot-requires-in-loop-at : goal.get_slot-requires-in-loop-at
get_slot-requires-in-loop-at g c =
    omega (arith, c.loop-at.invariant.comparing.to_calls.count, c.requires.second, c.loop-at-test.true)

pub returns-in_err-get_slot-clause-call : goal.returns-in_err-get_slot-clause-call
returns-in_err-get_slot-clause-call g c =
    let from = g.S.ReadSlots.state c.args.from.now in
    let to = g.T.ReadSlots.state c.args.to.now in
    first_fails from (g.S.ReadSlots.state c.loop-at.from) to
    (g.T.ReadSlots.state c.loop-at.to) c.loop-at.changed.items c.loop-at.at c.loop-at.invariant.comparing
    (g.S.ReadSlots.state c.get_slot.new.slots)
    c.get_slot.new.into c.get_slot.result c.in_err-get_slot.field-0.0 c.from_residual.result c.get_slot.ensures.call
    c.in_err-get_slot.was c.from_residual.ensures.1

pub returns-in_err-get_slot-clause-first : goal.returns-in_err-get_slot-clause-first
returns-in_err-get_slot-clause-first g c =
    g.met.S.ReadSlots.follows_trans c.args.from.now c.loop-at.from c.get_slot.new.slots c.loop-at.invariant.first
    c.get_slot.ensures.follows

pub returns-in_err-get_slot-clause-second : goal.returns-in_err-get_slot-clause-second
returns-in_err-get_slot-clause-second g c = c.loop-at.invariant.second

pub returns-in_err-get_slot-2-clause-call : goal.returns-in_err-get_slot-2-clause-call
returns-in_err-get_slot-2-clause-call g c =
    let from = g.S.ReadSlots.state c.args.from.now in
    let to = g.T.ReadSlots.state c.args.to.now in
    second_fails from (g.S.ReadSlots.state c.loop-at.from) to
    (g.T.ReadSlots.state c.loop-at.to) c.loop-at.changed.items c.loop-at.at c.loop-at.invariant.comparing
    (g.S.ReadSlots.state c.get_slot.new.slots)
    c.get_slot.new.into c.in_ok-get_slot.field-0 c.in_ok-get_slot.ensures.call
    (g.T.ReadSlots.state c.get_slot-in-loop-at.new.slots)
    c.get_slot-in-loop-at.new.into c.get_slot-in-loop-at.result c.in_err-get_slot-2.field-0.0
    c.from_residual-in_err-get_slot-2.result
    c.get_slot-in-loop-at.ensures.call c.in_err-get_slot-2.was c.from_residual-in_err-get_slot-2.ensures.1

pub returns-in_err-get_slot-2-clause-first : goal.returns-in_err-get_slot-2-clause-first
returns-in_err-get_slot-2-clause-first g c =
    g.met.S.ReadSlots.follows_trans c.args.from.now c.loop-at.from c.get_slot.new.slots c.loop-at.invariant.first
    c.get_slot.ensures.follows

pub returns-in_err-get_slot-2-clause-second : goal.returns-in_err-get_slot-2-clause-second
returns-in_err-get_slot-2-clause-second g c =
    g.met.T.ReadSlots.follows_trans c.args.to.now c.loop-at.to c.get_slot-in-loop-at.new.slots
    c.loop-at.invariant.second c.get_slot-in-loop-at.ensures.follows

pub returns-in_err-keep-clause-call : goal.returns-in_err-keep-clause-call
returns-in_err-keep-clause-call g c =
    let from = g.S.ReadSlots.state c.args.from.now in
    let to = g.T.ReadSlots.state c.args.to.now in
    keep_fails from (g.S.ReadSlots.state c.loop-at.from) to
    (g.T.ReadSlots.state c.loop-at.to) c.loop-at.changed.items c.loop-at.at c.loop-at.invariant.comparing
    (g.S.ReadSlots.state c.get_slot.new.slots)
    c.get_slot.new.into c.in_ok-get_slot.field-0 c.in_ok-get_slot.ensures.call
    (g.T.ReadSlots.state c.get_slot-in-loop-at.new.slots)
    c.get_slot-in-loop-at.new.into c.in_ok-get_slot-2.field-0 c.in_ok-get_slot-2.ensures.call
    c.from_residual-in_err-keep.result c.from_residual-in_err-keep.ensures.1

pub returns-in_err-keep-clause-first : goal.returns-in_err-keep-clause-first
returns-in_err-keep-clause-first g c =
    g.met.S.ReadSlots.follows_trans c.args.from.now c.loop-at.from c.get_slot.new.slots c.loop-at.invariant.first
    c.get_slot.ensures.follows

pub returns-in_err-keep-clause-second : goal.returns-in_err-keep-clause-second
returns-in_err-keep-clause-second g c =
    g.met.T.ReadSlots.follows_trans c.args.to.now c.loop-at.to c.get_slot-in-loop-at.new.slots
    c.loop-at.invariant.second c.get_slot-in-loop-at.ensures.follows

pub loop-at-preserved : goal.loop-at-preserved
loop-at-preserved g c =
    let from = g.S.ReadSlots.state c.args.from.now in
    let to = g.T.ReadSlots.state c.args.to.now in
    let from_now = g.S.ReadSlots.state c.loop-at.from in
    let to_now = g.T.ReadSlots.state c.loop-at.to in
    let from_new = g.S.ReadSlots.state c.get_slot.new.slots in
    let to_new = g.T.ReadSlots.state c.get_slot-in-loop-at.new.slots in
    record {
      comparing = elim c.if-ne.branch [
        | then-ne+in_ok-keep w ↦
            let kept : c.if-ne.changed.items ≡ c.loop-at.changed.items ++ (c.loop-at.at, c.get_slot.new.into) ∷ [] =
            ap (λ (v : Vec (ℕ × List ℕ) Global). v.items) w.changed-is ∙ w.in_ok-keep.ensures in
            let long : length c.get_slot.new.into ≡ 4096 = c.get_slot.array_long in
            subst (λ (items : List (ℕ × List ℕ)). IsComparing from from_new to to_new items (c.loop-at.at + 1))
            (sym kept) (comparing_finds from from_now to to_now
            c.loop-at.changed.items c.loop-at.at c.loop-at.invariant.comparing from_new
            c.get_slot.new.into c.in_ok-get_slot.field-0 c.in_ok-get_slot.ensures.call to_new
            c.get_slot-in-loop-at.new.into c.in_ok-get_slot-2.field-0 c.in_ok-get_slot-2.ensures.call c.ne.result
            c.ne.ensures w.if-ne.true long)
        | else-ne w ↦
            let kept : c.if-ne.changed.items ≡ c.loop-at.changed.items =
            ap (λ (v : Vec (ℕ × List ℕ) Global). v.items) w.changed-is in
            subst (λ (items : List (ℕ × List ℕ)). IsComparing from from_new to to_new items (c.loop-at.at + 1))
            (sym kept) (comparing_passes from from_now to to_now
            c.loop-at.changed.items c.loop-at.at c.loop-at.invariant.comparing from_new
            c.get_slot.new.into c.in_ok-get_slot.field-0 c.in_ok-get_slot.ensures.call to_new
            c.get_slot-in-loop-at.new.into c.in_ok-get_slot-2.field-0 c.in_ok-get_slot-2.ensures.call c.ne.result
            c.ne.ensures w.if-ne.false)
      ];
      first = g.met.S.ReadSlots.follows_trans c.args.from.now c.loop-at.from c.get_slot.new.slots
          c.loop-at.invariant.first c.get_slot.ensures.follows;
      second = g.met.T.ReadSlots.follows_trans c.args.to.now c.loop-at.to c.get_slot-in-loop-at.new.slots
          c.loop-at.invariant.second c.get_slot-in-loop-at.ensures.follows;
    }

pub invariant_of-result : goal.invariant_of-result
invariant_of-result g c = record {
  few = omega (
    arith,
    c.loop-at.invariant.comparing.few,
    c.loop-at-test.false,
    c.loop-at.auto.at-end,
    c.ranges.slots.fits,
  );
}

pub returns-clause-call : goal.returns-clause-call
returns-clause-call g c =
    let from = g.S.ReadSlots.state c.args.from.now in
    let to = g.T.ReadSlots.state c.args.to.now in
    compared_all from (g.S.ReadSlots.state c.loop-at.from) to
    (g.T.ReadSlots.state c.loop-at.to) _ c.loop-at.at
    (omega (arith, c.requires.first, c.loop-at-test.false, c.loop-at.auto.at-end)) c.loop-at.invariant.comparing

pub returns-clause-first : goal.returns-clause-first
returns-clause-first g c = c.loop-at.invariant.first

pub returns-clause-second : goal.returns-clause-second
returns-clause-second g c = c.loop-at.invariant.second
