use Rattle.std.proofs.Common.{◌<◌, ◌≤◌, drop, slice_index, ap, sym, subst, ◌∙◌}
use Rattle.store_model.specs.Pages.{Page, page_room}
use Rattle.node_pages.specs.PageSlots.{page_in}
use Rattle.node_pages.specs.Insertions.{TakesCell, with_cell}
use Rattle.node_pages.proofs.PageBytes.{length-cells_in, page_in-page_bytes, IsSlotOf-page_bytes}
use Rattle.node_pages.proofs.Inserted.{taken_room, taken_cell}
use Rattle.node_pages.proofs.page.Page.insert.Goals as goal

pub put_before-requires-clause-within : goal.put_before-requires-clause-within
put_before-requires-clause-within c =
    let p = page_in c.self.inside.label c.self.inside.slot in
    let takes = subst (λ (q : Page). TakesCell q c.args.at c.args.cell.now) (sym c.self.view_is)
    (c.takes-takes.ensures.0 c.if-takes.true) in
    subst (λ n. c.args.at ≤ n) (length-cells_in p.label.level (slice_index c.self.inside.slot 131)
    (drop 132 c.self.inside.slot)) takes.within

pub put_before-requires-clause-cell : goal.put_before-requires-clause-cell
put_before-requires-clause-cell c =
    let takes = subst (λ (q : Page). TakesCell q c.args.at c.args.cell.now) (sym c.self.view_is)
    (c.takes-takes.ensures.0 c.if-takes.true) in
    taken_cell (page_in c.self.inside.label c.self.inside.slot) c.args.at c.args.cell.now takes

pub put_before-requires-clause-room : goal.put_before-requires-clause-room
put_before-requires-clause-room c =
    let p = page_in c.self.inside.label c.self.inside.slot in
    let takes = subst (λ (q : Page). TakesCell q c.args.at c.args.cell.now) (sym c.self.view_is)
    (c.takes-takes.ensures.0 c.if-takes.true) in
    subst (λ n. n < page_room p.label.level)
    (length-cells_in p.label.level (slice_index c.self.inside.slot 131) (drop 132 c.self.inside.slot))
    (taken_room p c.args.at c.args.cell.now takes)

pub invariant_of-self : goal.invariant_of-self
invariant_of-self c =
    let takes = subst (λ (q : Page). TakesCell q c.args.at c.args.cell.now) (sym c.self.view_is)
    (c.takes-takes.ensures.0 c.if-takes.true) in
    IsSlotOf-page_bytes (with_cell (page_in c.self.inside.label c.self.inside.slot) c.args.at c.args.cell.now)
    c.put_before.new.slot takes.valid (sym c.put_before.ensures)

pub returns-then-takes-clause-value : goal.returns-then-takes-clause-value
returns-then-takes-clause-value c took =
    let takes = subst (λ (q : Page). TakesCell q c.args.at c.args.cell.now) (sym c.self.view_is)
    (c.takes-takes.ensures.0 c.if-takes.true) in
    page_in-page_bytes (with_cell (page_in c.self.inside.label c.self.inside.slot) c.args.at c.args.cell.now)
    c.put_before.new.slot takes.valid.label takes.valid.cells (sym c.put_before.ensures)
    ∙ ap (λ (q : Page). with_cell q c.args.at c.args.cell.now) c.self.view_is
