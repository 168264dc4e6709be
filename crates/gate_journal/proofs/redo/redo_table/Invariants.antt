use Rattle.std.proofs.Common.{◌*◌, min}
use Rattle.gate_journal.proofs.SoFar.{ComesSoFar}
use Rattle.gate_journal.specs.Recovery.{OutsideMarked, AreRedone, marked_count}
use Rattle.gate_journal.proofs.redo.redo_table.Given as goal

abbrev pub invariant-loop-block : goal.invariant-loop-block
invariant-loop-block g l =
    let old = g.D.Disk.state l.fn.disk in
    let so_far = min l.slots (4096 * l.block) in
    ComesSoFar (OutsideMarked l.slots 0 l.slots old.bytes) (AreRedone l.slots 0 so_far old.bytes)
    (marked_count 0 so_far old.bytes) old (g.D.Disk.state l.disk)
