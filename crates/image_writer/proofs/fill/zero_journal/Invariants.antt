use Rattle.std.proofs.Common.{◌-◌, ◌*◌}
use Rattle.gate_journal.specs.Places.{IsZeroAt}
use Rattle.gate_journal.proofs.SoFar.{ComesSoFar}
use Rattle.image_writer.specs.Filling.{OutsideJournal}
use Rattle.image_writer.proofs.fill.zero_journal.Given as goal

abbrev pub invariant-loop-block : goal.invariant-loop-block
invariant-loop-block g l = ComesSoFar (OutsideJournal l.slots) (IsZeroAt 4096 (4096 * (l.block - 1)))
    (l.block - 1) (g.D.Disk.state l.initial.disk) (g.D.Disk.state l.disk)
