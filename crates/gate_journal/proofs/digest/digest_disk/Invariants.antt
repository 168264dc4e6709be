use Rattle.std.proofs.Common.{◌*◌, take}
use Rattle.sha2.specs.Hashers.{Holds256}
use Rattle.gate_journal.proofs.SoFar.{ReadsSoFar}
use Rattle.gate_journal.proofs.digest.digest_disk.Given as goal

abbrev pub invariant-loop-block : goal.invariant-loop-block
invariant-loop-block g l =
    let old = g.D.Disk.state l.fn.disk in
    ReadsSoFar (Holds256 l.hasher (take (4096 * l.block) old.bytes)) old (g.D.Disk.state l.disk)
