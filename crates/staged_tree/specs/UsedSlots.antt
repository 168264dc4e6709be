-- The slots of a table that hold a page.
use Rattle.std.specs.Prelude.{ℕ, List, map}
use Rattle.store_model.specs.Placement.{Table}
use Rattle.gate_journal.specs.Changes.{Changes, AreChanges}
use Rattle.table_memory.specs.Differences.{AreDifferences}
use Rattle.table_memory.specs.SlotCaches.{changes_of}
use Rattle.staged_tree.specs.TableChanges.{bytes_of, empty_slot}

-- a slot of a table, with its bytes
abbrev pub slot_in : Table → ℕ → ℕ × List ℕ
slot_in table number = (number, bytes_of table number)

-- these slots of a table are to be changed, each to its bytes there
abbrev pub used_changes : Table → List ℕ → Changes
used_changes table numbers = changes_of (map (slot_in table) numbers)

-- These are just those of a table's first slots that hold a page: there it differs from a table in which no slot does.
pub record AreUsed (table : Table) (slots : ℕ) (numbers : List ℕ) : Type 0 where
  pub are : AreChanges slots (used_changes table numbers)
  pub differ : AreDifferences empty_slot (bytes_of table) slots (used_changes table numbers)
