use Rattle.std.proofs.Common.{◌<◌, subst}
use Rattle.store_model.specs.Parameters.{Parameters}
use Rattle.drawn_levels.proofs.LevelLemmas.{below_height, below_kept}
use Rattle.drawn_levels.proofs.known.KnownLevels.level.Goals as goal

pub returns-in-Some-clause-below : goal.returns-in-Some-clause-below
returns-in-Some-clause-below c = subst (λ (p : Parameters). c.in-Some.level < p.height) c.self.view_is
    (below_kept _ _ _ c.args.key.now _ c.self.invariant (c.in-Some.ensures _ c.self.invariant.kept_are))

pub returns-in-None-clause-below : goal.returns-in-None-clause-below
returns-in-None-clause-below c = subst (λ (p : Parameters). c.level_from.result < p.height) c.self.view_is
    (below_height _ _ _ c.args.key.now _ c.self.invariant c.level_from.ensures)
