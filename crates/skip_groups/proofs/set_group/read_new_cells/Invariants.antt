use Rattle.std.proofs.Common.{◌≡◌, ◌+◌, []}
use Rattle.store_base.specs.Leads.{model_lead}
use Rattle.skip_groups.specs.GroupCells.{IsRisingList}
use Rattle.skip_groups.proofs.NewCellsReads.{AreSeen}
use Rattle.skip_groups.proofs.set_group.read_new_cells.Given as goal

abbrev pub invariant-loop-index : goal.invariant-loop-index
invariant-loop-index g l = record {
  seen : AreSeen l.level (model_lead l.lead) l.key l.own
      (g.P.Pages.state l.initial.pages) (g.P.Pages.state l.pages) l.index l.made;
  valid : IsRisingList l.level l.made.cells;
  empty : l.made.count ≡ 0 → l.made.cells.cells ≡ [];
  counted : l.made.kept + l.made.count ≡ l.index;
  follows : g.P.Pages.follows l.initial.pages l.pages;
}
