use Rattle.std.proofs.Common.{arith}
use Rattle.node_pages.proofs.PackedLists.{list_push}
use Rattle.node_pages.proofs.cells.Cells.push.Goals as goal

pub invariant_of-self-2 : goal.invariant_of-self-2
invariant_of-self-2 c =
    (list_push c.self.inside.level c.self.inside.count c.in-Some.count c.self.inside.bytes.items
    c.push_cell.new.bytes.items c.args.cell.now c.args.self.now c.self.invariant c.self.view_is c.requires
    c.in_ok-push_cell.ensures.ok (omega arith) (omega arith)).0

pub returns-clause-ok : goal.returns-clause-ok
returns-clause-ok c =
    (list_push c.self.inside.level c.self.inside.count c.in-Some.count c.self.inside.bytes.items
    c.push_cell.new.bytes.items c.args.cell.now c.args.self.now c.self.invariant c.self.view_is c.requires
    c.in_ok-push_cell.ensures.ok (omega arith) (omega arith)).1
