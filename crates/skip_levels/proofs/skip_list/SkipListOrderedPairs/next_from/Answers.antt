use Rattle.std.proofs.Common.{[], arith}
use Rattle.skip_levels.proofs.skip_list.SkipListOrderedPairs.next_from.Goals as goal

-- a lawful draw has a level
pub find_next-requires : goal.find_next-requires
find_next-requires g c =
    let below = (g.met.W.Draw.lawful c.self.inside.draw).level_in_range [] in
    omega (arith, below, c.height-height.ensures)
