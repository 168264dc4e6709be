use Rattle.std.proofs.Common.{arith}
use Rattle.store_model.specs.Parameters.{mark_blocks}
use Rattle.store_base.proofs.areas.mark_blocks.Goals as goal

pub returns-clause-value : goal.returns-clause-value
unfolding mark_blocks
returns-clause-value c = omega (arith, c.div_ceil.ensures)

pub returns-clause-few : goal.returns-clause-few
returns-clause-few c = omega (arith, c.div_ceil.ensures)
