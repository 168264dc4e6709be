use Rattle.std.proofs.Common.{ℕ, ◌<◌, sym, subst}
use Rattle.gate_journal.proofs.Calls.{Makes-write}
use Rattle.gate_journal.proofs.commit.write_change.Goals as goal

pub write_entry-requires-clause-below : goal.write_entry-requires-clause-below
write_entry-requires-clause-below g c =
    subst (λ (slot : ℕ). slot < c.args.slots) (sym c.change-slot.ensures.slot)
    (c.requires.changes.below c.args.k c.requires.below)

pub write_entry-requires-in-Erase-clause-below : goal.write_entry-requires-in-Erase-clause-below
write_entry-requires-in-Erase-clause-below g c =
    subst (λ (slot : ℕ). slot < c.args.slots) (sym c.number.ensures)
    (c.requires.changes.below c.args.k c.requires.below)

pub returns-in-Journal-clause-reaches : goal.returns-in-Journal-clause-reaches
returns-in-Journal-clause-reaches g c observable =
    rw c.in-Journal.is
    (rw c.change-slot.ensures.slot at (rw c.change-slot.ensures.bytes at (c.write_entry.ensures.reaches observable)))

pub returns-in-Erase-clause-reaches : goal.returns-in-Erase-clause-reaches
returns-in-Erase-clause-reaches g c observable =
    rw c.in-Erase.is (rw c.number.ensures at (c.write_entry-in-Erase.ensures.reaches observable))

pub returns-in-Journal-clause-call : goal.returns-in-Journal-clause-call
returns-in-Journal-clause-call g c = c.write_entry.ensures.call

pub returns-in-Journal-clause-wrote : goal.returns-in-Journal-clause-wrote
returns-in-Journal-clause-wrote g c = c.write_entry.ensures.wrote

pub returns-in-Journal-clause-makes : goal.returns-in-Journal-clause-makes
returns-in-Journal-clause-makes g c = rw c.in-Journal.is c.write_entry.ensures.makes

pub returns-in-Table-clause-call : goal.returns-in-Table-clause-call
returns-in-Table-clause-call g c = c.write_at.ensures.call

pub returns-in-Table-clause-makes : goal.returns-in-Table-clause-makes
returns-in-Table-clause-makes g c observable =
    rw c.in-Table.is (Makes-write _ _ c.write_at.result observable _ _ c.write_at.ensures)

pub returns-in-Erase-clause-call : goal.returns-in-Erase-clause-call
returns-in-Erase-clause-call g c = c.write_entry-in-Erase.ensures.call

pub returns-in-Erase-clause-wrote : goal.returns-in-Erase-clause-wrote
returns-in-Erase-clause-wrote g c = c.write_entry-in-Erase.ensures.wrote

pub returns-in-Erase-clause-makes : goal.returns-in-Erase-clause-makes
returns-in-Erase-clause-makes g c = rw c.in-Erase.is c.write_entry-in-Erase.ensures.makes
