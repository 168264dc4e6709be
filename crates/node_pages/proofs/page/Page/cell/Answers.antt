use Rattle.std.proofs.Common.{Some, sym, ap, subst, ◌∙◌}
use Rattle.store_model.specs.Pages.{Page, IsCell, IsPage}
use Rattle.node_pages.proofs.Packed.{page_cell_at}
use Rattle.node_pages.proofs.page.Page.cell.Goals as goal

pub read_cell-requires-clause-long : goal.read_cell-requires-clause-long
read_cell-requires-clause-long c =
    (page_cell_at c.self.inside.label c.self.inside.slot c.args.i c.level_of.result c.bytes_between.result.now
    c.args.self.now c.self.invariant c.self.view_is c.level_of.ensures c.requires c.bytes_between.ensures).long

pub read_cell-requires-clause-valid : goal.read_cell-requires-clause-valid
read_cell-requires-clause-valid c =
    (page_cell_at c.self.inside.label c.self.inside.slot c.args.i c.level_of.result c.bytes_between.result.now
    c.args.self.now c.self.invariant c.self.view_is c.level_of.ensures c.requires c.bytes_between.ensures).spells

pub returns-clause-value : goal.returns-clause-value
returns-clause-value c =
    (page_cell_at c.self.inside.label c.self.inside.slot c.args.i c.level_of.result c.bytes_between.result.now
    c.args.self.now c.self.invariant c.self.view_is c.level_of.ensures c.requires c.bytes_between.ensures).got
    ∙ ap Some (sym c.read_cell.ensures)

pub returns-clause-valid : goal.returns-clause-valid
returns-clause-valid c = (
  subst IsPage c.self.view_is c.self.invariant.page,
  subst (λ n. IsCell n c.read_cell.result) (c.level_of.ensures ∙ ap (λ (p : Page). p.label.level) c.self.view_is)
      (subst (IsCell c.level_of.result) (sym c.read_cell.ensures)
      (page_cell_at c.self.inside.label c.self.inside.slot c.args.i c.level_of.result c.bytes_between.result.now
      c.args.self.now c.self.invariant c.self.view_is c.level_of.ensures c.requires c.bytes_between.ensures).valid),
)
