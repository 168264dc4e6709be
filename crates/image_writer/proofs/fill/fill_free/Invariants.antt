use Rattle.std.proofs.Common.{take}
use Rattle.gate_journal.proofs.SoFar.{ComesSoFar}
use Rattle.image_writer.specs.Filling.{OutsideFree, AreFilled, free_count}
use Rattle.image_writer.proofs.fill.fill_free.Given as goal

abbrev pub invariant-loop-slot : goal.invariant-loop-slot
invariant-loop-slot g l = ComesSoFar (OutsideFree l.slots l.free) (AreFilled l.slots l.free l.slot)
    (free_count (take l.slot l.free)) (g.D.Disk.state l.initial.disk) (g.D.Disk.state l.disk)
