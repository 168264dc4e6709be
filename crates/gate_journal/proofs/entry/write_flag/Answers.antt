use Rattle.gate_journal.proofs.entry.write_flag.Goals as goal

pub returns-clause-reaches : goal.returns-clause-reaches
returns-clause-reaches g c = rw c.gate_at.ensures at c.write_byte.ensures.reaches
