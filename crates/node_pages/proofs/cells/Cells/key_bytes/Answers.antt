use Rattle.std.proofs.Common.{arith}
use Rattle.node_pages.proofs.CellLists.{key_within}
use Rattle.node_pages.proofs.Packed.{cell_at, key_at}
use Rattle.node_pages.proofs.cells.Cells.key_bytes.Goals as goal

pub overflow_add-i : goal.overflow_add-i
overflow_add-i c = omega (arith, c.requires, c.reveal.ensures.valid.few)

pub key_part-requires : goal.key_part-requires
key_part-requires c =
    omega (
      arith,
      (cell_at c.args.self.now.level c.args.i c.args.self.now.cells c.bytes_between.result.now
          c.reveal.ensures.valid.each c.requires c.bytes_between.ensures).long,
      key_within c.args.self.now.level,
    )

pub returns-clause-value : goal.returns-clause-value
returns-clause-value c =
    (key_at c.args.self.now.level c.args.i c.args.self.now.cells c.bytes_between.result.now c.key_part.result.now
    (cell_at c.args.self.now.level c.args.i c.args.self.now.cells c.bytes_between.result.now c.reveal.ensures.valid.each
    c.requires c.bytes_between.ensures) c.key_part.ensures).0

pub returns-clause-valid : goal.returns-clause-valid
returns-clause-valid c =
    (key_at c.args.self.now.level c.args.i c.args.self.now.cells c.bytes_between.result.now c.key_part.result.now
    (cell_at c.args.self.now.level c.args.i c.args.self.now.cells c.bytes_between.result.now c.reveal.ensures.valid.each
    c.requires c.bytes_between.ensures) c.key_part.ensures).1
