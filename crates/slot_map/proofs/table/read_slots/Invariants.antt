use Rattle.std.proofs.Common.{◌≡◌, length}
use Rattle.gate_journal.proofs.SoFar.{ReadsSoFar}
use Rattle.slot_map.specs.Contents.{AreShown}
use Rattle.slot_map.proofs.table.read_slots.Given as goal

-- the slots so far are shown
abbrev pub invariant-loop-slot : goal.invariant-loop-slot
invariant-loop-slot g l =
    let old = g.D.Disk.state l.fn.disk in
    record {
      so_far : ReadsSoFar (AreShown l.slots old.bytes l.slot l.chars) old (g.D.Disk.state l.disk);
      length_is : length l.chars ≡ l.slots;
    }
