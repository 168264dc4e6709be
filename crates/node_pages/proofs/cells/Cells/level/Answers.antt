use Rattle.node_pages.proofs.PackedLists.{list_valid}
use Rattle.node_pages.proofs.cells.Cells.level.Goals as goal

pub returns-clause-valid : goal.returns-clause-valid
returns-clause-valid c =
    list_valid c.self.inside.level c.self.inside.count c.self.inside.bytes.items c.args.self.now
    c.self.invariant c.self.view_is
