use Rattle.std.proofs.Common.{[], arith}
use Rattle.skip_levels.proofs.skip_list.SkipListOrderedPairs.get.Goals as goal

-- a lawful draw has a level
pub find_value-requires : goal.find_value-requires
find_value-requires g c =
    let below = (g.met.W.Draw.lawful c.self.inside.draw).level_in_range [] in
    omega (arith, below, c.height-height.ensures)
