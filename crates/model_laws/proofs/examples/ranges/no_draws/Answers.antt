use Rattle.std.proofs.Common.{[], arith}
use Rattle.model_laws.specs.Examples.{start_label}
use Rattle.model_laws.proofs.examples.ranges.no_draws.Goals as goal

pub returns-clause-start : goal.returns-clause-start
returns-clause-start c law = omega (arith, law.start_in_range (start_label 0 0))

pub returns-clause-level : goal.returns-clause-level
returns-clause-level c law = omega (arith, law.level_in_range [])
