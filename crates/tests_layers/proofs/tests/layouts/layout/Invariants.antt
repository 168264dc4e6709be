use Rattle.layout_scratch.specs.Sorting.{HasDistinctKeys}
use Rattle.tests_layers.proofs.tests.layouts.layout.Given as goal

abbrev pub invariant-loop-key : goal.invariant-loop-key
invariant-loop-key l = HasDistinctKeys l.pairs
