use Rattle.std.proofs.Common.{sym}
use Rattle.node_pages.proofs.PackedLists.{listed, list_valid}
use Rattle.node_pages.proofs.cells.Cells.len.Goals as goal

pub returns-clause-value : goal.returns-clause-value
returns-clause-value c =
    sym (listed c.self.inside.level c.self.inside.count c.self.inside.bytes.items c.args.self.now c.self.view_is)

pub returns-clause-valid : goal.returns-clause-valid
returns-clause-valid c =
    list_valid c.self.inside.level c.self.inside.count c.self.inside.bytes.items c.args.self.now
    c.self.invariant c.self.view_is
