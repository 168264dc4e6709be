use Rattle.std.proofs.Common.{Some, sym, ap, subst, ◌∙◌, arith}
use Rattle.store_model.specs.Pages.{IsCell}
use Rattle.node_pages.specs.Cells.{CellList}
use Rattle.node_pages.proofs.PackedLists.{listed, list_cell_at}
use Rattle.node_pages.proofs.cells.Cells.get.Goals as goal

pub overflow_add-i : goal.overflow_add-i
overflow_add-i c =
    omega (
      arith,
      c.requires,
      c.self.invariant.few,
      listed c.self.inside.level c.self.inside.count c.self.inside.bytes.items c.args.self.now c.self.view_is,
    )

pub read_cell-requires-clause-long : goal.read_cell-requires-clause-long
read_cell-requires-clause-long c =
    (list_cell_at c.self.inside.level c.self.inside.count c.args.i c.self.inside.bytes.items c.bytes_between.result.now
    c.args.self.now c.self.invariant c.self.view_is c.requires c.bytes_between.ensures).long

pub read_cell-requires-clause-valid : goal.read_cell-requires-clause-valid
read_cell-requires-clause-valid c =
    (list_cell_at c.self.inside.level c.self.inside.count c.args.i c.self.inside.bytes.items c.bytes_between.result.now
    c.args.self.now c.self.invariant c.self.view_is c.requires c.bytes_between.ensures).spells

pub returns-clause-value : goal.returns-clause-value
returns-clause-value c =
    (list_cell_at c.self.inside.level c.self.inside.count c.args.i c.self.inside.bytes.items c.bytes_between.result.now
    c.args.self.now c.self.invariant c.self.view_is c.requires c.bytes_between.ensures).got
    ∙ ap Some (sym c.read_cell.ensures)

pub returns-clause-valid : goal.returns-clause-valid
returns-clause-valid c =
    subst (λ (l : CellList). IsCell l.level c.read_cell.result)
    c.self.view_is (subst (IsCell c.self.inside.level) (sym c.read_cell.ensures)
    (list_cell_at c.self.inside.level c.self.inside.count c.args.i c.self.inside.bytes.items
    c.bytes_between.result.now c.args.self.now c.self.invariant c.self.view_is c.requires
    c.bytes_between.ensures).valid)
