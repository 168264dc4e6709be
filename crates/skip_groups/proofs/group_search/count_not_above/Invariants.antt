use Rattle.std.proofs.Common.{◌≤◌, ◌-◌, length}
use Rattle.std.specs.List.{prefix_len}
use Rattle.skip_groups.specs.Floors.{is_not_above}
use Rattle.skip_groups.proofs.group_search.count_not_above.Given as goal

abbrev pub invariant-loop-low : goal.invariant-loop-low
invariant-loop-low l = record {
  low : l.low ≤ prefix_len (is_not_above l.key) l.page.cells;
  high : prefix_len (is_not_above l.key) l.page.cells ≤ l.high;
  within : l.high ≤ length l.page.cells;
}

abbrev pub decreases-loop-low : goal.decreases-loop-low
decreases-loop-low l = l.high - l.low
