use Rattle.std.proofs.Common.{◌≡◌, ◌+◌}
use Rattle.store_base.specs.Leads.{model_lead}
use Rattle.skip_groups.specs.GroupCells.{IsRisingList}
use Rattle.skip_groups.proofs.PartReads.{ArePartedTo}
use Rattle.skip_groups.proofs.set_group.part_group.Given as goal

abbrev pub invariant-loop-index : goal.invariant-loop-index
invariant-loop-index g l = record {
  parted : ArePartedTo l.level (model_lead l.lead) l.key l.initial.above.cells
      (g.P.Pages.state l.initial.pages) (g.P.Pages.state l.pages) l.index l.made l.above.cells;
  valid : IsRisingList l.level l.made.cells;
  above : IsRisingList l.level l.above;
  counted : l.made.kept + l.made.count ≡ l.index;
  follows : g.P.Pages.follows l.initial.pages l.pages;
}
