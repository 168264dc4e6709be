use Rattle.node_pages.proofs.PackedLists.{packed_none}
use Rattle.node_pages.proofs.cells.Cells.new.Goals as goal

pub invariant_of-result : goal.invariant_of-result
invariant_of-result c =
    (packed_none c.args.level c.new.result.items c.ranges.level.fits c.new.ensures.items).0

pub returns : goal.returns
returns c =
    (packed_none c.args.level c.new.result.items c.ranges.level.fits c.new.ensures.items).1
