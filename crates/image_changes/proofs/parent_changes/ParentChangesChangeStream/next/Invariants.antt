use Rattle.std.proofs.Common.{◌-◌, length}
use Rattle.image_changes.proofs.ParentSteps.{Passes}
use Rattle.image_changes.proofs.parent_changes.ParentChangesChangeStream.next.Given as goal

abbrev pub invariant-loop-path : goal.invariant-loop-path
invariant-loop-path l = Passes l.initial.self l.self

abbrev pub decreases-loop-path : goal.decreases-loop-path
decreases-loop-path l = length l.self.paths.items - l.self.begun
