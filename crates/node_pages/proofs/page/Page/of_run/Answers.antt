use Rattle.std.proofs.Common.{sym, arith}
use Rattle.node_pages.specs.PageSlots.{cells_in}
use Rattle.node_pages.proofs.PageBytes.{length-cells_in, IsSlotOf-page_bytes, page_in-page_bytes}
use Rattle.node_pages.proofs.page.Page.of_run.Goals as goal

pub fill-requires-clause-room : goal.fill-requires-clause-room
fill-requires-clause-room c =
    omega (arith, c.requires.page.room, length-cells_in c.args.label.level c.args.count c.args.run.now)

pub invariant_of-result : goal.invariant_of-result
invariant_of-result c =
    IsSlotOf-page_bytes (record {
      label = c.args.label;
      cells = cells_in c.args.label.level c.args.count c.args.run.now;
    })
    c.fill.new.slot c.requires.page (sym c.fill.ensures)

pub returns : goal.returns
returns c =
    page_in-page_bytes (record {
      label = c.args.label;
      cells = cells_in c.args.label.level c.args.count c.args.run.now;
    })
    c.fill.new.slot c.requires.page.label c.requires.page.cells (sym c.fill.ensures)
