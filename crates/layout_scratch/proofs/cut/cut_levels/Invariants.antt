use Rattle.std.proofs.Common.{◌≡◌}
use Rattle.std.specs.List.{flat_map}
use Rattle.store_model.specs.Lists.{numbers_below}
use Rattle.store_model.specs.Draws.{Draw}
use Rattle.store_model.specs.Pages.{level_pages}
use Rattle.layout_scratch.specs.Ranks.{pairs_of, AreRanked}
use Rattle.layout_scratch.proofs.cut.cut_levels.Given as goal

abbrev pub invariant-loop-level : goal.invariant-loop-level
invariant-loop-level l = (d : Draw) → AreRanked d l.ranked
    → l.pages ≡ flat_map (level_pages d (pairs_of l.ranked)) (numbers_below l.level)
