use Rattle.node_pages.proofs.PackedLists.{packed_none}
use Rattle.node_pages.proofs.cells.Cells.with_room.Goals as goal

pub invariant_of-result : goal.invariant_of-result
invariant_of-result c =
    (packed_none c.args.level c.in_ok-with_capacity.field-0.items c.ranges.level.fits
    c.in_ok-with_capacity.ensures.items).0

pub returns : goal.returns
returns c =
    (packed_none c.args.level c.in_ok-with_capacity.field-0.items c.ranges.level.fits
    c.in_ok-with_capacity.ensures.items).1
