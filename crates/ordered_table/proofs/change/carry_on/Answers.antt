use Rattle.ordered_table.proofs.Settling.{displacing_goes_on, displacing_ends}
use Rattle.ordered_table.proofs.change.carry_on.Goals as goal

pub returns-in_default-2-clause-call : goal.returns-in_default-2-clause-call
returns-in_default-2-clause-call g c =
    let d = g.W.Draw.drawn c.args.draw.now in
    let s = displacing_goes_on d _ _ _ c.args.displaced c.loop-onward.way c.in-Some.onward c.args.hand.now
    c.loop-onward.hand _ c.in_ok-onward.field-0 c.loop-onward.invariant.0 c.in_ok-onward.ensures.call c.in-Some.is
    in
    displacing_ends d _ _ _ c.args.displaced c.in-Some.onward c.args.hand.now _ _ c.in_ok-further.field-0 s
    c.in_ok-further.ensures.call c.in_default-2.is

pub loop-onward-preserved : goal.loop-onward-preserved
loop-onward-preserved g c =
    let d = g.W.Draw.drawn c.args.draw.now in
    let s = displacing_goes_on d _ _ _ c.args.displaced c.loop-onward.way c.in-Some.onward c.args.hand.now
    c.loop-onward.hand _ c.in_ok-onward.field-0 c.loop-onward.invariant.0 c.in_ok-onward.ensures.call c.in-Some.is
    in (
      displacing_goes_on d _ _ _ c.args.displaced c.in-Some.onward c.in-Some-2.further c.args.hand.now _ _
          c.in_ok-further.field-0 s c.in_ok-further.ensures.call c.in-Some-2.is,
      g.met.S.ReadSlots.follows_trans c.args.slots.now c.displace.new.slots c.displace-in-Some.new.slots
          (g.met.S.ReadSlots.follows_trans c.args.slots.now c.loop-onward.slots c.displace.new.slots
          c.loop-onward.invariant.1 c.in_ok-onward.ensures.follows) c.in_ok-further.ensures.follows,
    )

pub returns-clause-call : goal.returns-clause-call
returns-clause-call g c =
    displacing_ends (g.W.Draw.drawn c.args.draw.now) _ _ _
    c.args.displaced c.loop-onward.way c.args.hand.now c.loop-onward.hand _
    c.in_ok-onward.field-0 c.loop-onward.invariant.0 c.in_ok-onward.ensures.call c.in_default.is
