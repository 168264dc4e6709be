use Rattle.store_base.specs.Leads.{model_lead}
use Rattle.skip_groups.proofs.FloorWalks.{Walks}
use Rattle.skip_groups.proofs.group_search.search_group.Given as goal

abbrev pub invariant-loop-index : goal.invariant-loop-index
invariant-loop-index g l = record {
  walks : Walks (g.T.Wanted.floor l.key) (g.T.Wanted.after l.key)
      (g.met.T.Wanted.last_counts l.key) l.initial.found (g.P.Pages.state l.initial.pages) l.level (model_lead l.lead)
      l.key (g.P.Pages.state l.pages) l.index l.found;
  follows : g.P.Pages.follows l.initial.pages l.pages;
}
