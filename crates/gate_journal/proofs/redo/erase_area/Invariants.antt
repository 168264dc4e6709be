use Rattle.std.proofs.Common.{◌+◌, ◌-◌, ◌*◌}
use Rattle.gate_journal.specs.Places.{IsApart, IsZeroAt}
use Rattle.gate_journal.proofs.SoFar.{ComesSoFar}
use Rattle.gate_journal.specs.Recovery.{clear_writes, clear_block_writes}
use Rattle.gate_journal.proofs.redo.erase_area.Given as goal

abbrev pub invariant-loop-block : goal.invariant-loop-block
invariant-loop-block g l =
    let old = g.D.Disk.state l.fn.disk in
    let so_far = 4096 * l.block - 4097 in
    ComesSoFar (IsApart 4097 so_far) (IsZeroAt 4097 so_far)
    (clear_writes 4097 4095 old.bytes + clear_block_writes (l.block - 2) old.bytes) old (g.D.Disk.state l.disk)
