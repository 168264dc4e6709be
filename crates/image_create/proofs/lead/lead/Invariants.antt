use Rattle.std.proofs.Common.{◌≡◌, [], Ok}
use Rattle.store_model.specs.declared.version.Version.TheVariants.{Two}
use Rattle.store_model.specs.Parameters.{Parameters}
use Rattle.gate_journal.specs.Places.{AreCalls}
use Rattle.host_folders.specs.Packed.{IsOfSame}
use Rattle.tree_writer.specs.Writing.{WritesTree}
use Rattle.image_create.proofs.Steps.{LeadsTree}
use Rattle.image_create.proofs.lead.lead.Given as goal

-- the steps that came were written, and were counted
abbrev pub invariant-loop : goal.invariant-loop
invariant-loop g l =
    AreCalls {T = Unit {0}} {E = Unit {0}} (g.D.Disk.state l.fn.disk) (g.D.Disk.state l.disk) (Ok tt)
    × IsOfSame l.fn.stream l.stream
    × ((p : Parameters) (start : g.row.D.Denot) → p.version ≡ Two
    → WritesTree p [] (g.D.Disk.state start) (g.D.Disk.state l.fn.disk) l.fn.writer
    → LeadsTree g.F.Folder.state p l.stream (g.D.Disk.state start) (g.D.Disk.state l.disk) l.writer l.last l.counter)
