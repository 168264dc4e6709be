use Rattle.std.proofs.Common.{◌≡◌, ◌+◌, ◌≤◌, ◌++◌, Equal, length, take}
use Rattle.skip_groups.specs.GroupCells.{AreCells, IsRisingList, side}
use Rattle.skip_groups.proofs.cells.append_own.Given as goal

abbrev pub invariant-loop-cell : goal.invariant-loop-cell
invariant-loop-cell l = record {
  valid : IsRisingList l.level l.cells;
  added : AreCells l.level (l.initial.cells.cells ++ side Equal l.key l.own)
      → l.cells.cells ≡ l.initial.cells.cells ++ side Equal l.key (take l.cell-index l.own);
  few : length l.cells.cells ≤ length l.initial.cells.cells + l.cell-index;
}
