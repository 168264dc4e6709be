use Rattle.std.proofs.Common.{◌≡◌, IfSome, sym, subst}
use Rattle.store_model.specs.Pages.{Cell}
use Rattle.node_pages.proofs.Packed.{page_cell_at}
use Rattle.node_pages.proofs.page.Page.value.Goals as goal

pub read_value-requires : goal.read_value-requires
read_value-requires c =
    let at = page_cell_at c.self.inside.label c.self.inside.slot c.args.i c.level_of.result c.bytes_between.result.now
    c.args.self.now c.self.invariant c.self.view_is c.level_of.ensures c.requires c.bytes_between.ensures in
    record { long = at.long; valid = at.spells }

pub returns : goal.returns
returns c =
    let at = page_cell_at c.self.inside.label c.self.inside.slot c.args.i c.level_of.result c.bytes_between.result.now
    c.args.self.now c.self.invariant c.self.view_is c.level_of.ensures c.requires c.bytes_between.ensures in
    subst (λ found. IfSome found (λ (cell : Cell). cell.value ≡ c.read_value.result)) (sym at.got)
    (sym c.read_value.ensures)
