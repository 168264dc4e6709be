use Rattle.std.proofs.Common.{rules}
use Rattle.node_pages.proofs.Inserted.{taken_room, taken_cell}
use Rattle.node_pages.proofs.page.Page.takes.Goals as goal

pub returns-else-may_take : goal.returns-else-may_take
returns-else-may_take c = (
  λ yes. absurd (search rules),
  λ takes. c.may_take.ensures.1 (
    takes.within,
    taken_room c.args.self.now c.args.at c.args.cell.now takes,
    taken_cell c.args.self.now c.args.at c.args.cell.now takes,
  ),
)
