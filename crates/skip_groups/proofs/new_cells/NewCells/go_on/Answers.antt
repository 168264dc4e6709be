use Rattle.std.proofs.Common.{refl, arith}
use Rattle.store_base.specs.Leads.{model_lead}
use Rattle.skip_groups.proofs.NewCellsSteps.{set_stays}
use Rattle.skip_groups.proofs.new_cells.NewCells.go_on.Goals as goal

pub returns-then-self-gt0-clause-set : goal.returns-then-self-gt0-clause-set
returns-then-self-gt0-clause-set c pages h = c.append.ensures.set (model_lead c.args.lead.now) c.args.own.now pages h

pub returns-then-self-gt0-clause-step : goal.returns-then-self-gt0-clause-step
returns-then-self-gt0-clause-step c = c.append.ensures.step (model_lead c.args.lead.now)

pub returns-clause-set : goal.returns-clause-set
returns-clause-set c pages h =
    set_stays _ h (omega arith) (c.stays.ensures.stays c.if-not-stays.false) _ _ refl
    c.len.ensures.valid.some_cell (rw c.len.ensures.value at c.key.ensures.value)
