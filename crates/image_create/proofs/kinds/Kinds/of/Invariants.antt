use Rattle.std.proofs.Common.{take}
use Rattle.image_create.specs.Counts.{CountsKinds}
use Rattle.image_create.proofs.kinds.Kinds.of.Given as goal

-- what was found before this entry is counted
abbrev pub invariant-loop-entry : goal.invariant-loop-entry
invariant-loop-entry l = CountsKinds (take l.entry-index l.fn.found) l.kinds
