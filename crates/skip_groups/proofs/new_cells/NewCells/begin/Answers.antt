use Rattle.std.proofs.Common.{arith}
use Rattle.skip_groups.proofs.NewCellsSteps.{set_begins, some_run}
use Rattle.skip_groups.proofs.new_cells.NewCells.begin.Goals as goal

pub is_page-requires-clause-within : goal.is_page-requires-clause-within
is_page-requires-clause-within c =
    some_run c.merge_page.new.cells.level c.merge_page.new.cells.cells
    (omega (arith, c.if-len.false, c.len.ensures.value, c.len-2.ensures.value, c.len-2.ensures.valid.some_cell))

pub returns-then-len-clause-set : goal.returns-then-len-clause-set
returns-then-len-clause-set c pages h = set_begins _ h c.requires.none c.requires.first _ _
    (omega (arith, c.in_ok-self.ensures.few)) c.in_ok-self.ensures.merged

pub returns-then-is_page-clause-set : goal.returns-then-is_page-clause-set
returns-then-is_page-clause-set c pages h = set_begins _ h c.requires.none c.requires.first _ _
    (omega (arith, c.in_ok-self.ensures.few)) c.in_ok-self.ensures.merged

pub returns-else-is_page-clause-set : goal.returns-else-is_page-clause-set
returns-else-is_page-clause-set c pages h = set_begins _ h c.requires.none c.requires.first _ _
    (omega (arith, c.in_ok-self.ensures.few)) c.in_ok-self.ensures.merged
