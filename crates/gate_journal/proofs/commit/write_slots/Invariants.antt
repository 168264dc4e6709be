use Rattle.std.proofs.Common.{◌*◌}
use Rattle.gate_journal.proofs.SoFar.{ComesSoFar}
use Rattle.gate_journal.specs.Passes.{slot_writes, OutsideSlots, HasPassedFirst}
use Rattle.gate_journal.proofs.commit.write_slots.Given as goal

abbrev pub invariant-loop-k : goal.invariant-loop-k
invariant-loop-k g l =
    let old = g.D.Disk.state l.fn.disk in
    let changes = g.S.SlotChanges.changes l.changes in
    ComesSoFar (OutsideSlots l.pass l.slots changes) (HasPassedFirst l.pass l.slots changes l.k old.bytes)
    (slot_writes l.pass * l.k) old (g.D.Disk.state l.disk)
