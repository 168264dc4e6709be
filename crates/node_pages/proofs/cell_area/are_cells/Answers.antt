use Rattle.std.proofs.Common.{take, drop, refl, ap, ◌∙◌}
use Rattle.node_pages.proofs.CellLists.{next_cell, goes_on, all_read}
use Rattle.node_pages.proofs.cell_area.are_cells.Goals as goal
use Rattle.node_pages.proofs.cell_area.are_cells.Goals.{then-not-is_cell-via-then-not-is_cell}
use Rattle.node_pages.proofs.cell_area.are_cells.Goals.{then-not-is_cell-via-else-not-is_cell+then-not-is_below}

pub loop-preserved : goal.loop-preserved
loop-preserved c =
    let len = c.cell_len.ensures in
    let cell_is = c.split_at.ensures.front ∙ ap (λ n. take n c.loop.rest.now) len in
    let after_is = c.split_at.ensures.back ∙ ap (λ n. drop n c.loop.rest.now) len in
    goes_on c.args.level c.args.count c.loop.counter c.args.bytes.now c.loop.last.now c.loop.rest.now
    c.split_at.result.0.now c.split_at.result.1.now c.split_at-in-loop.result.0.now
    c.loop-test.true c.loop.invariant cell_is after_is
    c.split_at-in-loop.ensures.front (c.is_cell.ensures.0 c.if-not-is_cell.false)
    (c.is_below.ensures.0 c.if-not-is_below.false)

pub returns : goal.returns
returns c = (
  λ holds. all_read c.args.level c.args.count c.loop.counter c.args.bytes.now c.loop.last.now c.loop.rest.now
      c.loop-test.false c.loop.invariant,
  λ holds. refl,
)

pub returns-then-not-is_cell : goal.returns-then-not-is_cell
returns-then-not-is_cell c =
    let len = c.cell_len.ensures in
    let cell_is = c.split_at.ensures.front ∙ ap (λ n. take n c.loop.rest.now) len in
    let after_is = c.split_at.ensures.back ∙ ap (λ n. drop n c.loop.rest.now) len in
    let next = next_cell c.args.level c.args.count c.loop.counter c.args.bytes.now c.loop.last.now c.loop.rest.now
    c.split_at.result.0.now c.split_at.result.1.now c.split_at-in-loop.result.0.now
    c.loop-test.true c.loop.invariant cell_is after_is c.split_at-in-loop.ensures.front in (
      λ never. cc,
      λ whole. elim c.then-not-is_cell.branch [
        | then-not-is_cell-via-then-not-is_cell w ↦ (let holds = c.is_cell.ensures.1 (next.0 whole).0 in cc)
        | then-not-is_cell-via-else-not-is_cell+then-not-is_below w
            ↦ (let holds = w.is_below.ensures.1 (next.0 whole).1 in cc)
      ],
    )
