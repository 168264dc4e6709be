use Rattle.drawn_levels.proofs.LevelLemmas.{same_levels}
use Rattle.drawn_levels.proofs.laws.levels_are_the_same_under_other_slots.Goals as goal

pub returns : goal.returns
returns c = same_levels
