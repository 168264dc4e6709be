use Rattle.std.proofs.Common.{◌≤◌, ◌*◌, length, take, drop, sym, ap, subst, ◌∙◌}
use Rattle.node_pages.specs.CellAreas.{cell_size}
use Rattle.node_pages.proofs.Packed.{slot_between}
use Rattle.node_pages.proofs.page.bytes_in.Goals as goal

pub cells_between-requires-clause-within : goal.cells_between-requires-clause-within
cells_between-requires-clause-within c =
    subst (λ n. cell_size n * c.args.past ≤ length c.split_at.result.1.now) (sym c.level_of.ensures)
    (slot_between c.args.label.now c.args.slot.now c.split_at.result.1.now c.args.first c.args.past c.requires.holds
    c.split_at.ensures.back c.requires.order c.requires.within).0

pub returns : goal.returns
returns c =
    c.cells_between.ensures
    ∙ ap (λ n. drop (cell_size n * c.args.first) (take (cell_size n * c.args.past) c.split_at.result.1.now))
    c.level_of.ensures
    ∙ (slot_between c.args.label.now c.args.slot.now c.split_at.result.1.now c.args.first c.args.past c.requires.holds
    c.split_at.ensures.back c.requires.order c.requires.within).1
