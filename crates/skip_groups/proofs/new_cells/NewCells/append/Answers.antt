use Rattle.std.proofs.Common.{arith}
use Rattle.skip_groups.proofs.NewCellsSteps.{set_goes_on, step_in}
use Rattle.skip_groups.proofs.new_cells.NewCells.append.Goals as goal

pub returns-clause-set : goal.returns-clause-set
returns-clause-set c lead own pages h =
    set_goes_on _ h (omega (arith, c.requires.some)) _ c.in_ok-append_above.ensures.few
    c.in_ok-append_above.ensures.added

pub returns-clause-step : goal.returns-clause-step
returns-clause-step c lead = step_in _ _ _ _ _ (omega arith) c.step_behind.ensures
