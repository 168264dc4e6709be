use Rattle.store_model.specs.Trees.{Tree}
use Rattle.store_stream.specs.declared.parts.PartsStream.{PartsStream}
use Rattle.store_stream.specs.PartsStreams.{PartsBy, ReadsParts}
use Rattle.store_stream.proofs.parts.PartsStream.next_step.Given as goal

-- as many pairs came as turns were made
abbrev pub invariant-loop : goal.invariant-loop
invariant-loop g l =
    ((start : PartsStream g.row.D.Denot) → ReadsParts g.D.Disk.state start l.fn.self
    → ReadsParts g.D.Disk.state start l.self)
    × ((t : Tree) → PartsBy g.D.Disk.state l.fn.self t 0 → PartsBy g.D.Disk.state l.self t l.counter)
