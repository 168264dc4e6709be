use Rattle.std.proofs.Common.{◌≡◌, length, sym, ap₂, subst, ◌∙◌}
use Rattle.std.specs.Int.{div_ceil}
use Rattle.store_model.specs.Lists.{runs}
use Rattle.store_model.specs.Pages.{page_room}
use Rattle.node_pages.specs.PageSlots.{cells_in}
use Rattle.node_pages.specs.Cells.{CellList}
use Rattle.node_pages.proofs.PageBytes.{length-cells_in}
use Rattle.node_pages.proofs.Runs.{div_ceil-room, length-runs}
use Rattle.node_pages.proofs.cells.Cells.page_count.Goals as goal

pub returns : goal.returns
returns c =
    let level = c.self.inside.level in
    let cells = cells_in level c.self.inside.count c.self.inside.bytes.items in
    subst (λ (l : CellList). c.div_ceil.result ≡ length (runs (page_room l.level) l.cells)) c.self.view_is
    (c.div_ceil.ensures ∙ ap₂ div_ceil (sym (length-cells_in level c.self.inside.count c.self.inside.bytes.items))
    (c.from.ensures ∙ c.room.ensures) ∙ div_ceil-room level (length cells) ∙ sym (length-runs level cells))
