use Rattle.script_runs.proofs.WorkTurns.{SoFar}
use Rattle.script_runs.proofs.work.answer_each.Given as goal

-- the turns so far were made, and the image is that of the tree after them
abbrev pub invariant-turns : goal.invariant-turns
invariant-turns g l = SoFar g.D.Disk.state g.J.Work.told g.J.Work.trees g.J.Work.left g.J.Work.live g.J.Work.kept
    l.fn.work l.work l.fn.store l.store l.done

abbrev pub decreases-turns : goal.decreases-turns
decreases-turns g l = g.J.Work.left l.work
