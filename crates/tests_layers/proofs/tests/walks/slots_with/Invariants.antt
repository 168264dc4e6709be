use Rattle.std.proofs.Common.{◌≡◌}
use Rattle.ordered_table.specs.MemSlots.{mem_state}
use Rattle.tests_layers.proofs.tests.walks.slots_with.Given as goal

-- the slots keep their number
abbrev pub invariant-loop-at : goal.invariant-loop-at
invariant-loop-at g l = (mem_state l.slots).count ≡ l.count
