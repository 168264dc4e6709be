use Rattle.std.proofs.Common.{◌≤◌}
use Rattle.skip_levels.proofs.DescentSteps.{Descends}
use Rattle.skip_levels.proofs.walk.descend.Given as goal

abbrev pub invariant-loop-level : goal.invariant-loop-level
invariant-loop-level g l = record {
  below : l.level ≤ l.top;
  above : l.bottom ≤ l.level;
  descends : Descends (g.P.Pages.state l.initial.pages)
      l.top l.initial.end l.key (g.P.Pages.state l.pages) l.level l.end;
  follows : g.P.Pages.follows l.initial.pages l.pages;
}

abbrev pub decreases-loop-level : goal.decreases-loop-level
decreases-loop-level g l = l.level
