use Rattle.std.proofs.Common.{arith}
use Rattle.file_blocks.proofs.CutLemmas.{cuts_more, fewer_left}
use Rattle.file_blocks.proofs.cutting.drop_blocks.Goals as goal

pub loop-left-preserved : goal.loop-left-preserved
loop-left-preserved g c =
    let old = g.P.OrderedPairs.state c.args.pairs.now in
    let between = g.P.OrderedPairs.state c.loop-left.pairs in
    let new = g.P.OrderedPairs.state c.take.new.self in
    let inv = c.loop-left.invariant in
    record {
      kept = omega arith;
      within = omega arith;
      call = cuts_more c.args.path.now _ c.loop-left.left c.key.result c.in_ok-take.field-0 old between new
          c.key.ensures.path c.key.ensures.value (omega arith) (omega arith) inv.call c.in_ok-take.ensures.call;
      fewer = λ seen. let l = inv.fewer seen in let m =
          fewer_left c.key.result c.in_ok-take.field-0 between new c.in_ok-take.ensures.call (inv.call.observable seen)
          in omega arith;
      hidden = λ h. c.loop-left.invariant.hidden (c.in_ok-take.ensures.call.hidden h);
      follows = g.met.P.OrderedPairs.follows_trans _ _ _ inv.follows c.in_ok-take.ensures.follows;
    }
