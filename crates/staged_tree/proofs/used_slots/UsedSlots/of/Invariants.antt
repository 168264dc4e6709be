use Rattle.std.proofs.Common.{◌≤◌, length}
use Rattle.staged_tree.specs.UsedSlots.{AreUsed}
use Rattle.staged_tree.proofs.used_slots.UsedSlots.of.Given as goal

-- the slots that were found so far
abbrev pub invariant-loop-at : goal.invariant-loop-at
invariant-loop-at l = record {
  used : AreUsed l.layout l.at l.numbers.items;
  few : length l.numbers.items ≤ l.at;
}
