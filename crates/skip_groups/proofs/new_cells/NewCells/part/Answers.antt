use Rattle.std.proofs.Common.{refl, arith}
use Rattle.skip_groups.proofs.PartSteps.{part_stays, part_gives}
use Rattle.skip_groups.proofs.new_cells.NewCells.part.Goals as goal

pub returns-then-stays-clause-parted : goal.returns-then-stays-clause-parted
returns-then-stays-clause-parted c lead start pages h =
    part_stays _ h (omega (arith, c.if-self-eq0.true)) (c.stays.ensures.stays c.if-stays.true) _ _ refl
    c.len.ensures.valid.some_cell (rw c.len.ensures.value at c.key.ensures.value)

pub returns-clause-parted : goal.returns-clause-parted
returns-clause-parted c lead start pages h =
    part_gives _ h _ _ c.in_ok-part_page.ensures.low c.in_ok-part_page.ensures.high
    c.in_ok-part_page.ensures.low_few c.in_ok-part_page.ensures.high_few
