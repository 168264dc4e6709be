use Rattle.gate_journal.proofs.SoFar.{ComesSoFar}
use Rattle.gate_journal.specs.Phases.{table_slot}
use Rattle.scrub_free.specs.FreeSlots.{OutsideFree, AreScrubbed, scrub_writes}
use Rattle.scrub_free.proofs.slots.scrub_slots.Given as goal

abbrev pub invariant-loop-slot : goal.invariant-loop-slot
invariant-loop-slot g l =
    let old = g.D.Disk.state l.fn.disk in
    ComesSoFar (OutsideFree l.slots old.bytes) (AreScrubbed l.slots l.slot old.bytes)
    (scrub_writes (table_slot l.slots old.bytes) l.slot) old (g.D.Disk.state l.disk)
