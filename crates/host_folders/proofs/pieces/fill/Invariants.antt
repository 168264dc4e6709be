use Rattle.std.proofs.Common.{length, ◌-◌}
use Rattle.host_folders.proofs.FillLemmas.{IsPartFilled}
use Rattle.host_folders.proofs.pieces.fill.Given as goal

abbrev pub invariant-loop-count : goal.invariant-loop-count
invariant-loop-count g l = IsPartFilled (g.F.Folder.state l.fn.folder) (g.F.Folder.state l.folder) l.into l.count

abbrev pub decreases-loop-count : goal.decreases-loop-count
decreases-loop-count g l = length l.initial.into - l.count
