use Rattle.std.proofs.Common.{◌+◌, ◌<◌, List, length, Result}
use Rattle.store_model.specs.Parameters.{Parameters}
use Rattle.store_model.specs.Pairs.{Pair}
use Rattle.dump_streams.specs.Listed.{blocks_from}
use Rattle.tree_writer.specs.declared.fault.TreeFault.{TreeFault}
use Rattle.tree_writer.specs.declared.pairs.PairWriter.{PairWriter}
use Rattle.tree_writer.specs.Pairs.{MayCome, WritesPairs}
use Rattle.tree_writer.proofs.pairs.PairWriter.push_blocks.Given as goal

-- the blocks of what is left may come, and with them all are written
abbrev pub invariant-loop-rest : goal.invariant-loop-rest
invariant-loop-rest g l = record {
  few : l.number + length l.rest < 4294967296;
  come : (p : Parameters) × (start : g.row.D.Denot) × (s : List Pair)
      × MayCome p s (blocks_from l.path l.number l.rest) (g.D.Disk.state start) (g.D.Disk.state l.disk) l.self;
  further : (disk : g.row.D.Denot) (new : PairWriter) (result : Result (Unit {0}) TreeFault)
      → WritesPairs g.D.Disk.state (blocks_from l.path l.number l.rest) l.disk disk l.self new result
      → WritesPairs g.D.Disk.state (blocks_from l.path l.first l.bytes) l.fn.disk disk l.fn.self new result;
}

abbrev pub decreases-loop-rest : goal.decreases-loop-rest
decreases-loop-rest g l = length l.rest
