use Rattle.std.proofs.Common.{arith}
use Rattle.image_writer.proofs.Fills.{header_part_long, header_rest_written, long_image}
use Rattle.image_writer.proofs.fill.write_header_rest.Goals as goal

pub write_at-requires : goal.write_at-requires
write_at-requires g c =
    omega (
      arith,
      header_part_long c.write_header.new.block c.write_header.array_long,
      c.requires,
      long_image c.args.params.now.slots,
    )

pub returns-clause-reaches : goal.returns-clause-reaches
returns-clause-reaches g c observable =
    header_rest_written c.args.params.now c.write_header.new.block (g.D.Disk.state c.args.disk.now)
    (g.D.Disk.state c.write_at.new.self) c.write_at.result observable
    (g.met.D.Disk.sound c.args.disk.now observable) c.requires c.write_header.ensures c.write_header.array_long
    c.write_at.ensures
