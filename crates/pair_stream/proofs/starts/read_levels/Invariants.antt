use Rattle.std.proofs.Common.{◌≡◌, ◌≤◌, length}
use Rattle.pair_stream.proofs.StartLevels.{Lowers}
use Rattle.pair_stream.proofs.starts.read_levels.Given as goal

abbrev pub invariant-loop-level : goal.invariant-loop-level
invariant-loop-level g l = record {
  within : l.level ≤ l.height;
  long : length l.places ≡ 8;
  lowers : Lowers (g.P.Pages.state l.initial.pages) l.height l.key (g.P.Pages.state l.pages) l.level l.lead l.places;
  follows : g.P.Pages.follows l.initial.pages l.pages;
}

abbrev pub decreases-loop-level : goal.decreases-loop-level
decreases-loop-level g l = l.level
