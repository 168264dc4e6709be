use Rattle.std.proofs.Common.{◌-◌, ◌*◌, min}
use Rattle.gate_journal.specs.Places.{IsApart, IsZeroAt}
use Rattle.gate_journal.proofs.SoFar.{ComesSoFar}
use Rattle.gate_journal.proofs.wipe.wipe_rest.Given as goal

abbrev pub invariant-loop-block : goal.invariant-loop-block
invariant-loop-block g l =
    let old = g.D.Disk.state l.fn.disk in
    ComesSoFar (IsApart 1 (old.size - 1)) (IsZeroAt 1 (min (4096 * l.block) old.size - 1)) l.block old
    (g.D.Disk.state l.disk)
