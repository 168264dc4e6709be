use Rattle.image_puts.proofs.StepRounds.{Rounds}
use Rattle.image_puts.proofs.put_changes.PutChanges.next_step.Given as goal

abbrev pub invariant-loop : goal.invariant-loop
invariant-loop g l = Rounds g.S.DumpStream.came g.S.DumpStream.keeps l.initial.self l.self
