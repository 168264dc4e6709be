use Rattle.store_model.specs.Pairs.{IsPairs}
use Rattle.tests_create.proofs.tests.written.pairs.Given as goal

abbrev pub invariant-loop-number : goal.invariant-loop-number
invariant-loop-number g l = IsPairs l.pairs
