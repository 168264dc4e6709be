use Rattle.std.proofs.Common.{refl, ap}
use Rattle.node_pages.specs.Cells.{CellList}
use Rattle.skip_groups.proofs.CellLists.{no_list}
use Rattle.skip_groups.proofs.NewCellsSteps.{set_none}
use Rattle.skip_groups.proofs.PartSteps.{part_none}
use Rattle.skip_groups.proofs.new_cells.NewCells.new.Goals as goal

pub returns-clause-valid : goal.returns-clause-valid
returns-clause-valid c = no_list c.args.level c.new.ensures

pub returns-clause-set : goal.returns-clause-set
returns-clause-set c key own = set_none _ _ refl (ap (λ (list : CellList). list.cells) c.new.ensures)

pub returns-clause-parted : goal.returns-clause-parted
returns-clause-parted c key start = part_none _ _ refl (ap (λ (list : CellList). list.cells) c.new.ensures)
