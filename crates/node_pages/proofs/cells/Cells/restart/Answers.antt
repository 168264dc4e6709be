use Rattle.node_pages.proofs.PackedLists.{packed_none}
use Rattle.node_pages.proofs.cells.Cells.restart.Goals as goal

pub invariant_of-self : goal.invariant_of-self
invariant_of-self c =
    (packed_none c.args.level c.clear.new.self.items c.ranges.level.fits c.clear.ensures.items).0

pub returns : goal.returns
returns c =
    (packed_none c.args.level c.clear.new.self.items c.ranges.level.fits c.clear.ensures.items).1
