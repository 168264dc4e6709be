use Rattle.std.proofs.Common.{◌≤◌}
use Rattle.store_base.specs.Leads.{model_lead}
use Rattle.skip_levels.proofs.ChangeSteps.{TakenDown}
use Rattle.skip_levels.proofs.pair_changes.take_from.Given as goal

abbrev pub invariant-loop-level : goal.invariant-loop-level
invariant-loop-level g l = record {
  below : l.level ≤ l.top;
  down : TakenDown (g.P.Pages.state l.fn.pages) l.top (model_lead l.lead)
      l.key (g.P.Pages.state l.pages) l.level l.next;
  follows : g.P.Pages.follows l.fn.pages l.pages;
}

abbrev pub decreases-loop-level : goal.decreases-loop-level
decreases-loop-level g l = l.level
