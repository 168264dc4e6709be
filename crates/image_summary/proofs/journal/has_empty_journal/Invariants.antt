use Rattle.gate_journal.proofs.SoFar.{ReadsSoFar}
use Rattle.image_summary.proofs.Zeros.{AreZeroTo}
use Rattle.image_summary.proofs.journal.has_empty_journal.Given as goal

abbrev pub invariant-loop-block : goal.invariant-loop-block
invariant-loop-block g l =
    let old = g.D.Disk.state l.fn.disk in
    ReadsSoFar (AreZeroTo l.block old.bytes) old (g.D.Disk.state l.disk)
