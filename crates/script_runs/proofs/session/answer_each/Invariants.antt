use Rattle.script_lines.specs.LineState.{unread}
use Rattle.script_runs.proofs.SessionTurns.{SessionsSoFar}
use Rattle.script_runs.proofs.session.answer_each.Given as goal

-- the lines so far were answered, the sessions are the machine after them, and the image is that of its tree
abbrev pub invariant-lines : goal.invariant-lines
invariant-lines g l = SessionsSoFar g.D.Disk.state g.R.Source.state g.W.Sink.state l.fn.sessions l.sessions
    l.fn.script.reader l.script.reader l.fn.script.sink l.script.sink l.done

abbrev pub decreases-lines : goal.decreases-lines
decreases-lines g l = unread l.script.reader
