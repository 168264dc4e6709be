use Rattle.std.proofs.Common.{Ok}
use Rattle.store_base.specs.Leads.{model_lead}
use Rattle.skip_groups.specs.GroupChanges.{IsRunChange}
use Rattle.skip_groups.proofs.set_group.change_run.Given as goal

abbrev pub invariant-loop-i : goal.invariant-loop-i
invariant-loop-i g l = record {
  call : IsRunChange (g.P.Pages.state l.initial.pages) (g.P.Pages.state l.pages) l.level
      (model_lead l.lead) l.fn.first l.fn.count l.cells.cells l.i (Ok (tt {0}));
  follows : g.P.Pages.follows l.initial.pages l.pages;
}
