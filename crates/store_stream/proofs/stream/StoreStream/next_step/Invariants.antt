use Rattle.store_model.specs.Trees.{Tree}
use Rattle.store_stream.specs.declared.stream.StoreStream.{StoreStream}
use Rattle.store_stream.specs.StoreStreams.{CameBy, ReadsStore}
use Rattle.store_stream.proofs.stream.StoreStream.next_step.Given as goal

-- as many pairs came as turns were made
abbrev pub invariant-loop : goal.invariant-loop
invariant-loop g l =
    ((start : StoreStream g.row.D.Denot) → ReadsStore g.D.Disk.state start l.fn.self
    → ReadsStore g.D.Disk.state start l.self)
    × ((t : Tree) → CameBy g.D.Disk.state l.fn.self t 0 → CameBy g.D.Disk.state l.self t l.counter)
