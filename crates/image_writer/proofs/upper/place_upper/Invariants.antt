use Rattle.std.proofs.Common.{◌≡◌, ◌≤◌, ◌++◌, List, Ok, length}
use Rattle.store_base.specs.declared.fault.DiskFault.{DiskFault}
use Rattle.store_model.specs.Pages.{Page}
use Rattle.gate_journal.specs.Places.{AreCalls}
use Rattle.rising_pages.specs.FreePlaces.{AreFree}
use Rattle.rising_pages.specs.Raised.{key_pairs, upper_pages}
use Rattle.image_writer.specs.Placing.{placed, ArePlaced}
use Rattle.image_writer.proofs.UpperPlaced.{levels_below}
use Rattle.image_writer.proofs.upper.place_upper.Given as goal

abbrev pub invariant-loop-level : goal.invariant-loop-level
invariant-loop-level g l = record {
  calls : AreCalls {T = Unit {0}} {E = DiskFault} (g.D.Disk.state l.initial.disk) (g.D.Disk.state l.disk) (Ok tt);
  slots : length l.free ≡ (g.W.Draw.drawn l.draw).slots;
  free_are : (before : List Page) → AreFree (placed (g.W.Draw.drawn l.draw) before) l.initial.free
      → AreFree (placed (g.W.Draw.drawn l.draw)
      (before ++ levels_below (g.W.Draw.drawn l.draw) (key_pairs l.keys) l.level)) l.free;
  places : (start : g.row.D.Denot) (before : List Page)
      → length (before ++ upper_pages (g.W.Draw.drawn l.draw) (key_pairs l.keys))
      ≤ (g.W.Draw.drawn l.draw).slots → AreFree (placed (g.W.Draw.drawn l.draw) before) l.initial.free
      → ArePlaced (g.W.Draw.drawn l.draw) before (g.D.Disk.state start) (g.D.Disk.state l.initial.disk)
      → ArePlaced (g.W.Draw.drawn l.draw)
      (before ++ levels_below (g.W.Draw.drawn l.draw) (key_pairs l.keys) l.level)
      (g.D.Disk.state start) (g.D.Disk.state l.disk);
}
