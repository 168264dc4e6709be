use Rattle.std.proofs.Common.{◌≡◌, ◌+◌, ◌<◌, length, slice_index, ap, ◌∙◌, arith}
use Rattle.gate_journal.proofs.Areas.{marks_end, shadow_end, table_end}
use Rattle.gate_journal.proofs.Reading.{byte_read}
use Rattle.slot_map.proofs.table.read_flag.Goals as goal

pub read_at-requires : goal.read_at-requires
read_at-requires g c =
    omega (
      arith,
      c.gate_at.ensures,
      c.requires.size,
      table_end c.args.slots,
      shadow_end c.args.slots,
      marks_end c.args.slots,
    )

pub returns-clause-flag : goal.returns-clause-flag
returns-clause-flag g c observable =
    let old = (g.D.Disk.state c.args.disk.now).bytes in
    let some : 0 < length c.read_at.new.into = omega (arith, c.read_at.auto.into) in
    let there : c.gate_at.result + 0 ≡ 4096 = omega (arith, c.gate_at.ensures) in
    byte_read old c.read_at.new.into c.gate_at.result 0 (c.in_ok-read_at.ensures.observed observable).read some
    ∙ ap (slice_index old) there
