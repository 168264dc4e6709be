use Rattle.std.proofs.Common.{map}
use Rattle.session_core.specs.Noted.{note_of}
use Rattle.session_core.proofs.CommitLemmas.{PassesNotes}
use Rattle.session_core.proofs.commit.first_difference.Given as goal

abbrev pub invariant-loop-index : goal.invariant-loop-index
invariant-loop-index g l = PassesNotes g.D.Disk.state (map note_of l.notes) l.index l.fn.store l.store
