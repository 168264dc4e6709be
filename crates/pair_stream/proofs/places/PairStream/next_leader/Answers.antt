use Rattle.std.proofs.Common.{arith, get_or}
use Rattle.pair_stream.proofs.LeaderCalls.{place_read, search_finds, level_passed, search_ends}
use Rattle.pair_stream.proofs.places.PairStream.next_leader.Goals as goal

pub returns-in-Some-clause-call : goal.returns-in-Some-clause-call
returns-in-Some-clause-call g c =
    search_finds (get_or c.args.self.now.places c.from.result c.index-self-from.result) c.loop-level.invariant.passed
    (place_read c.args.self.now.places c.from.result c.loop-level.level c.index-self-from.result (omega arith)
    c.from.ensures (omega (arith, c.args.self.now.in_range, c.loop-level-test.true)))
    (omega arith) c.loop-level-test.true (rw c.in-Some.is at c.in_ok-key.ensures.call)

pub loop-level-preserved : goal.loop-level-preserved
loop-level-preserved g c = record {
  passed = level_passed (get_or c.args.self.now.places c.from.result c.index-self-from.result)
      c.loop-level.invariant.passed
      (place_read c.args.self.now.places c.from.result c.loop-level.level c.index-self-from.result (omega arith)
      c.from.ensures (omega (arith, c.args.self.now.in_range, c.loop-level-test.true)))
      (omega arith) c.loop-level-test.true (rw c.in_default.is at c.in_ok-key.ensures.call);
  high = omega (arith, c.loop-level-test.true);
  follows = g.met.P.Pages.follows_trans _ _ _ c.loop-level.invariant.follows c.in_ok-key.ensures.follows;
}

pub returns-clause-call : goal.returns-clause-call
returns-clause-call g c = search_ends c.loop-level.invariant.passed (omega arith)
    (omega (arith, c.loop-level.invariant.high))
