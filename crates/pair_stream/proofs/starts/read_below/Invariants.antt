use Rattle.store_base.specs.Leads.{model_lead}
use Rattle.pair_stream.proofs.StartGroups.{Walks}
use Rattle.pair_stream.proofs.starts.read_below.Given as goal

abbrev pub invariant-loop-index : goal.invariant-loop-index
invariant-loop-index g l = record {
  walks : Walks (g.P.Pages.state l.initial.pages) l.level (model_lead l.lead) l.key (g.P.Pages.state l.pages) l.index
      l.next;
  follows : g.P.Pages.follows l.initial.pages l.pages;
}
