use Rattle.std.proofs.Common.{◌<◌, subst}
use Rattle.store_model.specs.Parameters.{Parameters}
use Rattle.drawn_levels.proofs.LevelLemmas.{below_height}
use Rattle.drawn_levels.proofs.known.KnownLevels.draw.Goals as goal

pub returns-clause-below : goal.returns-clause-below
returns-clause-below c = subst (λ (p : Parameters). c.level_from-level.result < p.height) c.self.view_is
    (below_height _ _ _ c.args.key.now _ c.self.invariant c.level_from-level.ensures)
