use Rattle.std.proofs.Common.{◌≡◌, ◌*◌, length, drop, ap₂, subst, arith}
use Rattle.store_model.specs.Lists.{zeros}
use Rattle.node_pages.specs.CellAreas.{cell_size}
use Rattle.node_pages.proofs.cell_area.are_whole.Goals as goal

-- the bytes behind the last cell are those that were split off
pub returns-then-are_zero : goal.returns-then-are_zero
returns-then-are_zero c =
    let area = c.args.area.now in
    let size : c.cell_len.result * c.from.result ≡ cell_size c.args.level * c.args.count =
    ap₂ (λ len count. len * count) c.cell_len.ensures c.from.ensures in
    let all_zero = rw c.split_at.ensures.back at (c.are_zero.ensures.0 c.if-are_zero.true) in
    let rest = subst (λ n. drop n area ≡ zeros (length (drop n area))) size all_zero in (
      λ rising. record { some = omega arith; room = omega arith; rising = c.are_cells.ensures.0 rising; rest = rest },
      λ spelled. c.are_cells.ensures.1 spelled.rising,
    )
