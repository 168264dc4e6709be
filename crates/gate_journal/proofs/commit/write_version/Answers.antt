use Rattle.std.proofs.Common.{arith}
use Rattle.gate_journal.proofs.Areas.{marks_end, shadow_end, table_end}
use Rattle.gate_journal.proofs.commit.write_version.Goals as goal

pub write_byte-requires : goal.write_byte-requires
write_byte-requires g c =
    omega (
      arith,
      c.mark_at.ensures,
      c.requires.size,
      table_end c.args.slots,
      shadow_end c.args.slots,
      marks_end c.args.slots,
    )

pub write_byte-requires-in-Table : goal.write_byte-requires-in-Table
write_byte-requires-in-Table g c =
    omega (
      arith,
      c.version_at.ensures,
      c.requires.size,
      table_end c.args.slots,
      shadow_end c.args.slots,
      marks_end c.args.slots,
    )

pub write_byte-requires-in-Erase : goal.write_byte-requires-in-Erase
write_byte-requires-in-Erase g c =
    omega (
      arith,
      c.mark_at-in-Erase.ensures,
      c.requires.size,
      table_end c.args.slots,
      shadow_end c.args.slots,
      marks_end c.args.slots,
    )

pub returns-in-Journal-clause-call : goal.returns-in-Journal-clause-call
returns-in-Journal-clause-call g c = c.write_byte.ensures.call

pub returns-in-Journal-clause-wrote : goal.returns-in-Journal-clause-wrote
returns-in-Journal-clause-wrote g c = c.write_byte.ensures.wrote

pub returns-in-Journal-clause-makes : goal.returns-in-Journal-clause-makes
returns-in-Journal-clause-makes g c = c.write_byte.ensures.makes

pub returns-in-Journal-clause-durable : goal.returns-in-Journal-clause-durable
returns-in-Journal-clause-durable g c = c.write_byte.ensures.durable

pub returns-in-Table-clause-call : goal.returns-in-Table-clause-call
returns-in-Table-clause-call g c = c.write_byte-in-Table.ensures.call

pub returns-in-Table-clause-wrote : goal.returns-in-Table-clause-wrote
returns-in-Table-clause-wrote g c = c.write_byte-in-Table.ensures.wrote

pub returns-in-Table-clause-makes : goal.returns-in-Table-clause-makes
returns-in-Table-clause-makes g c = c.write_byte-in-Table.ensures.makes

pub returns-in-Table-clause-durable : goal.returns-in-Table-clause-durable
returns-in-Table-clause-durable g c = c.write_byte-in-Table.ensures.durable

pub returns-in-Erase-clause-call : goal.returns-in-Erase-clause-call
returns-in-Erase-clause-call g c = c.write_byte-in-Erase.ensures.call

pub returns-in-Erase-clause-wrote : goal.returns-in-Erase-clause-wrote
returns-in-Erase-clause-wrote g c = c.write_byte-in-Erase.ensures.wrote

pub returns-in-Erase-clause-makes : goal.returns-in-Erase-clause-makes
returns-in-Erase-clause-makes g c = c.write_byte-in-Erase.ensures.makes

pub returns-in-Erase-clause-durable : goal.returns-in-Erase-clause-durable
returns-in-Erase-clause-durable g c = c.write_byte-in-Erase.ensures.durable
