use Rattle.std.proofs.Common.{◌≡◌}
use Rattle.ordered_table.specs.MemSlots.{mem_state}
use Rattle.tests_layers.proofs.tests.tables.expect_counts.Given as goal

-- the slots keep their number
abbrev pub invariant-loop-row : goal.invariant-loop-row
invariant-loop-row g l = (mem_state l.slots).count ≡ l.draw.slots
