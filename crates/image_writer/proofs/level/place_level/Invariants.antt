use Rattle.std.proofs.Common.{◌≡◌, ◌≤◌, ◌++◌, List, Ok, length, take}
use Rattle.store_base.specs.declared.fault.DiskFault.{DiskFault}
use Rattle.store_model.specs.Pages.{Page, level_pages}
use Rattle.gate_journal.specs.Places.{AreCalls}
use Rattle.rising_pages.specs.FreePlaces.{AreFree}
use Rattle.rising_pages.specs.OpenPages.{open_page, closed_pages}
use Rattle.rising_pages.specs.Raised.{key_pairs}
use Rattle.image_writer.specs.Placing.{placed, ArePlaced}
use Rattle.image_writer.proofs.level.place_level.Given as goal

abbrev pub invariant-loop-key : goal.invariant-loop-key
invariant-loop-key g l = record {
  last_is : l.last ≡ open_page (g.W.Draw.drawn l.draw) (take l.key-index (key_pairs l.keys)) l.level;
  calls : AreCalls {T = Unit {0}} {E = DiskFault} (g.D.Disk.state l.initial.disk) (g.D.Disk.state l.disk) (Ok tt);
  slots : length l.free ≡ (g.W.Draw.drawn l.draw).slots;
  free_are : (before : List Page) → AreFree (placed (g.W.Draw.drawn l.draw) before) l.initial.free
      → AreFree (placed (g.W.Draw.drawn l.draw)
      (before ++ closed_pages (g.W.Draw.drawn l.draw) (take l.key-index (key_pairs l.keys)) l.level)) l.free;
  places : (start : g.row.D.Denot) (before : List Page)
      → length (before ++ level_pages (g.W.Draw.drawn l.draw) (key_pairs l.keys) l.level)
      ≤ (g.W.Draw.drawn l.draw).slots → AreFree (placed (g.W.Draw.drawn l.draw) before) l.initial.free
      → ArePlaced (g.W.Draw.drawn l.draw) before (g.D.Disk.state start) (g.D.Disk.state l.initial.disk)
      → ArePlaced (g.W.Draw.drawn l.draw)
      (before ++ closed_pages (g.W.Draw.drawn l.draw) (take l.key-index (key_pairs l.keys)) l.level)
      (g.D.Disk.state start) (g.D.Disk.state l.disk);
}
