use Rattle.std.proofs.Common.{◌+◌, ◌-◌, ◌≤◌}
use Rattle.pair_stream.proofs.LeaderCalls.{ArePassed}
use Rattle.pair_stream.proofs.places.PairStream.next_leader.Given as goal

abbrev pub invariant-loop-level : goal.invariant-loop-level
invariant-loop-level g l = record {
  passed : ArePassed (g.P.Pages.state l.initial.pages) (g.P.Pages.state l.pages) l.self l.level;
  high : l.level ≤ 1 + (l.self.height - 1);
  follows : g.P.Pages.follows l.initial.pages l.pages;
}
