use Rattle.std.proofs.Common.{Some, sym, ap, ◌∙◌}
use Rattle.node_pages.proofs.Packed.{page_cell_at}
use Rattle.node_pages.proofs.page.Page.cell_ref.Goals as goal

pub cell_ref-requires-clause-long : goal.cell_ref-requires-clause-long
cell_ref-requires-clause-long c =
    (page_cell_at c.self.inside.label c.self.inside.slot c.args.i c.level_of.result c.bytes_between.result.now
    c.args.self.now c.self.invariant c.self.view_is c.level_of.ensures c.requires c.bytes_between.ensures).long

pub cell_ref-requires-clause-valid : goal.cell_ref-requires-clause-valid
cell_ref-requires-clause-valid c =
    (page_cell_at c.self.inside.label c.self.inside.slot c.args.i c.level_of.result c.bytes_between.result.now
    c.args.self.now c.self.invariant c.self.view_is c.level_of.ensures c.requires c.bytes_between.ensures).spells

pub returns : goal.returns
returns c =
    (page_cell_at c.self.inside.label c.self.inside.slot c.args.i c.level_of.result c.bytes_between.result.now
    c.args.self.now c.self.invariant c.self.view_is c.level_of.ensures c.requires c.bytes_between.ensures).got
    ∙ ap Some (sym c.cell_ref.ensures)
